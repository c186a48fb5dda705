-- What the code does within one turn: it ends the part being done, or comes to a stop within it.
use Rattle.std.proofs.Common.{◌≡◌, ◌∙◌, ℕ, ◌≤◌, IsTrue, List, [], ◌∷◌, ◌++◌, length, refl, ap, subst, sym, arith, append_assoc}
use Rattle.occ_term.specs.declared.fault.Fault.{Fault}
use Rattle.occ_term.specs.declared.message.Message.{Message}
use Rattle.occ_term.specs.Terms.{Skip, Branches, Reception}
use Rattle.occ_term.specs.Values.{Store, Evaluated, Value, Fails}
use Rattle.occ_term.specs.Storing.{Outcome, Gives, Faults}
use Rattle.occ_term.specs.Selecting.{Enabled}
use Rattle.occ_term.specs.Steps.{Loop, WhileLoop, EachLoop, Doing, Do, Again, Offering, Awaiting, Choosing, Forking, Context, Then, Within, Left, left, status, is_running, FaultsIn, Step, faults}
use Rattle.occ_term.specs.Steps as S
use Rattle.occ_term.specs.Turns.{Steps, none, more, SingleTurn, single_turn}
use Rattle.occ_term.specs.Frames.{Variables}
use Rattle.occ_machine.specs.declared.task.Arm.{Arm}
use Rattle.occ_machine.specs.declared.task.Wait.{Wait}
use Rattle.occ_machine.specs.declared.task.Wait.TheVariants.{Ready, Offers, Awaits, Chooses, Joins, Halted, Faulted}
use Rattle.occ_machine.specs.SameStop.{numbers_of}
use Rattle.occ_machine.specs.Machine.{by_cell, Point, point, Stops, act, effect, Walks, here, on}
use Rattle.occ_machine.specs.declared.instr.Instr.{Instr}
use Rattle.occ_code.specs.Laws.{FaultsAt, Comes, comes, fails}
use Rattle.occ_code.specs.Layout.{Ways, stays, jumps, slot_in, slot_before, ListAt, LoopAt, ContextAt, ContextsAt}
use Rattle.occ_code.proofs.Walks.{walks_on}
use Rattle.occ_code.proofs.PassingArms.{ArmsLaid}
use Rattle.occ_code.proofs.LoopCounters.{KeepsBelow, keeps_all, keeps_on, keeps_less, counts_kept}
use Rattle.occ_code.proofs.AgreeingFrames.{HoldsAs, frame_of, Performs, performs, refuses}

pub steps_on : {a b c : Left} {s s1 s2 : Store} → Steps a s b s1 → Steps b s1 c s2 → Steps a s c s2
steps_on none r = r
steps_on (more x h xs) r = more x h (steps_on xs r)

pub after_steps : {a b c : Left} {s s1 s2 : Store} → Steps a s b s1 → SingleTurn b s1 c s2 → SingleTurn a s c s2
after_steps ys (single_turn xs x h) = single_turn (steps_on ys xs) x h

module _ (code : List (Instr ℕ)) where
  pub ways_join : {a b c : ℕ} → Ways code a b → Ways code b c → Ways code a c
  ways_join stays w = w
  ways_join (jumps h v) w = jumps h (ways_join v w)

  pub ways_walk : {a b : ℕ} (st : _) (q : _) (sp : _) (f : Variables) → Ways code a b → Walks by_cell code (point a st q sp f) (point b st q sp f)
  ways_walk st q sp f stays = here
  ways_walk {a = a} st q sp f (jumps h w) = on (ap (λ o. act by_cell o a st q sp f) h) (ways_walk st q sp f w)

  pub record StopsAt (a : Point) (stands : ℕ) (g : Variables) (w : Wait) : Type 0 where
    pub last : Point
    pub walks : Walks by_cell code a last
    pub stops : effect by_cell code last ≡ Stops stands g w

  pub stops_after : {a b : Point} {stands : ℕ} {g : Variables} {w : Wait} → Walks by_cell code a b → StopsAt b stands g w → StopsAt a stands g w
  stops_after v x = record { last = x.last; walks = walks_on v x.walks; stops = x.stops }

  pub comes_case : {X : Type 0} {R : Type 0} {a : Point} {f : Variables} {to : X → Point} (v : Evaluated X) → Comes code f a v to
      → ((x : X) → v ≡ Value x → Walks by_cell code a (to x) → R) → ((e : Fault) → v ≡ Fails e → FaultsAt code a f e → R) → R
  comes_case (Value x) (comes w) k m = k x refl w
  comes_case (Fails e) (fails z) k m = m e refl z

-- ---- contexts and counters

slot_below : (l : Loop) (slot : ℕ) → slot ≤ slot_in l slot
slot_below (WhileLoop e b) slot = omega arith
slot_below (EachLoop index v n b) slot = omega arith

pub slot_at_most : (c : Context) (slot : ℕ) → slot ≤ slot_before c slot
slot_at_most (Then ts) slot = omega arith
slot_at_most (Within l) slot = slot_below l slot

module _ (code : List (Instr ℕ)) (loops : ℕ) where
  context_kept : (c : Context) (xs ys : List ℕ) (slot a b : ℕ) → KeepsBelow (slot_before c slot) xs ys → ContextAt code loops xs slot a c b → ContextAt code loops ys slot a c b
  context_kept (Then ts) xs ys slot a b k h = h
  context_kept (Within (WhileLoop e t)) xs ys slot a b k h = h
  context_kept (Within (EachLoop index v n t)) xs ys slot a b k h = (h.0, h.1, (counts_kept slot v n xs ys k h.2.0, h.2.1))

  -- contexts stand with other counters, where theirs are the same
  pub contexts_kept : (k : List Context) (xs ys : List ℕ) (e pc d pc' : ℕ) → KeepsBelow e xs ys → ContextsAt code loops xs e pc k d pc' → ContextsAt code loops ys e pc k d pc'
  contexts_kept [] xs ys e pc d pc' m h = h
  contexts_kept (c ∷ k) xs ys e pc d pc' m h =
      let m' = subst (λ n. KeepsBelow n xs ys) h.3 m in
      (h.0, h.1, h.2, h.3, h.4, context_kept c xs ys h.0 h.1 h.2 m' h.5, contexts_kept k xs ys h.0 h.2 d pc' (keeps_less h.0 (slot_before c h.0) (slot_at_most c h.0) m') h.6)

  module _ (left_ : List ℕ) where
    contexts_from : (e a b d c : ℕ) (k : List Context) → Ways code a b → ContextsAt code loops left_ e b k d c → ContextsAt code loops left_ e a k d c
    contexts_from e a b d c [] w h = (h.0, ways_join code w h.1)
    contexts_from e a b d c (x ∷ k) w h = (h.0, h.1, h.2, h.3, ways_join code w h.4, h.5, h.6)

    pub contexts_join : (b m c d : ℕ) (j k : List Context) (e a : ℕ) → ContextsAt code loops left_ e a j m b → ContextsAt code loops left_ m b k d c → ContextsAt code loops left_ e a (j ++ k) d c
    contexts_join b m c d [] k e a h g = contexts_from e a b d c k h.1 (subst (λ n. ContextsAt code loops left_ n b k d c) (sym h.0) g)
    contexts_join b m c d (x ∷ j) k e a h g = (h.0, h.1, h.2, h.3, h.4, h.5, contexts_join b m c d j k h.0 h.2 h.6 g)

    -- a stop within a part, and how its contexts go on then: `slot` is that of the part
    pub data Pause (slot pc' : ℕ) (stands : ℕ) (inner : List Context) : Wait → Doing → Type 0 where
      at_offer : {c : ℕ} {m : Message} (e : ℕ) → ContextsAt code loops left_ e stands inner slot pc' → Pause slot pc' stands inner (Offers c m) (Offering c m)
      at_await : {c : ℕ} {list : Reception} (e mid : ℕ) → ListAt code loops e stands list mid → ContextsAt code loops left_ e mid inner slot pc' → Pause slot pc' stands inner (Awaits c) (Awaiting c list)
      at_choose : {pri : _} {arms : List Arm} {es : List Enabled} (e mid : ℕ) → ArmsLaid code loops e stands arms es mid → ContextsAt code loops left_ e mid inner slot pc' → Pause slot pc' stands inner (Chooses pri arms) (Choosing pri es)
      at_fork : {bs : Branches} (e : ℕ) → ContextsAt code loops left_ e stands inner slot pc' → Pause slot pc' stands inner (Joins (numbers_of bs)) (Forking bs)
      at_halt : Pause slot pc' stands inner Halted S.Halted
      at_fault : {e : Fault} → Pause slot pc' stands inner (Faulted e) (S.Faulted e)
      at_loop : {l : Loop} (e mid : ℕ) → LoopAt code loops left_ e stands l mid → ContextsAt code loops left_ e mid inner slot pc' → Pause slot pc' stands inner Ready (Again l)

    pub pause_in : (m n slot pc' stands : ℕ) (j k : List Context) {w : Wait} {y : Doing} → ContextsAt code loops left_ m n k slot pc' → Pause m n stands j w y → Pause slot pc' stands (j ++ k) w y
    pause_in m n slot pc' stands j k h (at_offer e c) = at_offer e (contexts_join n m pc' slot j k e stands c h)
    pause_in m n slot pc' stands j k h (at_await e mid l c) = at_await e mid l (contexts_join n m pc' slot j k e mid c h)
    pause_in m n slot pc' stands j k h (at_choose e mid l c) = at_choose e mid l (contexts_join n m pc' slot j k e mid c h)
    pause_in m n slot pc' stands j k h (at_fork e c) = at_fork e (contexts_join n m pc' slot j k e stands c h)
    pause_in m n slot pc' stands j k h at_halt = at_halt
    pause_in m n slot pc' stands j k h at_fault = at_fault
    pause_in m n slot pc' stands j k h (at_loop e mid l c) = at_loop e mid l (contexts_join n m pc' slot j k e mid c h)

  module _ (cells : List ℕ) where
    -- steps of what is left, and the store that they leave
    pub record Stepped (s : Store) (x y : Doing) (inner : List Context) (g : Variables) : Type 0 where
      pub store : Store
      pub steps : (k : List Context) → Steps (left x k) s (left y (inner ++ k)) store
      pub holds : HoldsAs cells g store

    pub record Turned (s : Store) (x y : Doing) (inner : List Context) (g : Variables) : Type 0 where
      pub store : Store
      pub turn : (k : List Context) → SingleTurn (left x k) s (left y (inner ++ k)) store
      pub holds : HoldsAs cells g store

    pub data Result (slot : ℕ) (a : Point) (f : Variables) (x : Doing) (pc' : ℕ) : Type 0 where
      finishes : (g : Variables) → Walks by_cell code a (point pc' [] [] [] g) → KeepsBelow slot f.left g.left → ((s : Store) → HoldsAs cells f s → Stepped s x (Do Skip) [] g) → Result slot a f x pc'
      pauses : (stands : ℕ) (w : Wait) (y : Doing) (inner : List Context) (g : Variables) → StopsAt code a stands g w → KeepsBelow slot f.left g.left → Pause g.left slot pc' stands inner w y
          → ((s : Store) → HoldsAs cells f s → Turned s x y inner g) → Result slot a f x pc'

    -- from a frame with room for all counters
    abbrev pub Does : ℕ → Point → Variables → Doing → ℕ → Type 0
    Does slot a f x pc' = length f.left ≡ loops → Result slot a f x pc'

    module _ (slot : ℕ) where
      -- first some steps
      pub result_after : {a b : Point} {f g : Variables} {x y : Doing} {pc' : ℕ} → Walks by_cell code a b → KeepsBelow slot f.left g.left → ((s : Store) → HoldsAs cells f s → Stepped s x y [] g) → Does slot b g y pc' → Does slot a f x pc'
      result_after {a = a} {b = b} {f = f} {g = g} {x = x} {y = y} {pc' = pc'} w m t r room = joined (r (m.as_long ∙ room))
        where
          joined : Result slot b g y pc' → Result slot a f x pc'
          joined (finishes h v n u) =
              finishes h (walks_on w v) (keeps_on slot m n) (λ s hs. let r = t s hs in let r' = u r.store r.holds in record { store = r'.store; steps = λ k. steps_on (r.steps k) (r'.steps k); holds = r'.holds })
          joined (pauses stands wait z inner h v n p u) =
              pauses stands wait z inner h (stops_after code w v) (keeps_on slot m n) p (λ s hs. let r = t s hs in let r' = u r.store r.holds in record { store = r'.store; turn = λ k. after_steps (r.steps k) (r'.turn k); holds = r'.holds })

      -- a part that is begun within a context: `c` after it, and then the rest
      pub result_within : {a b : Point} {f g : Variables} {x y : Doing} {n pc' : ℕ} (c : Context) → ((ys : List ℕ) → KeepsBelow (slot_before c slot) g.left ys → ContextsAt code loops ys (slot_before c slot) n (c ∷ []) slot pc') → Walks by_cell code a b
          → KeepsBelow slot f.left g.left → ((s : Store) → HoldsAs cells f s → Stepped s x y (c ∷ []) g) → Does (slot_before c slot) b g y n
          → ((h : Variables) → KeepsBelow (slot_before c slot) g.left h.left → Walks by_cell code a (point n [] [] [] h) → ((s : Store) → HoldsAs cells f s → Stepped s x (Do Skip) (c ∷ []) h) → Does slot a f x pc') → Does slot a f x pc'
      result_within {a = a} {b = b} {f = f} {g = g} {x = x} {y = y} {n = n} {pc' = pc'} c at_c w m t r k room = joined (r (m.as_long ∙ room))
        where
          joined : Result (slot_before c slot) b g y n → Result slot a f x pc'
          joined (finishes h v o u) =
              k h o (walks_on w v) (λ s hs. let r = t s hs in let r' = u r.store r.holds in record { store = r'.store; steps = λ ks. steps_on (r.steps ks) (r'.steps (c ∷ ks)); holds = r'.holds }) room
          joined (pauses stands wait z inner h v o p u) =
              pauses stands wait z (inner ++ c ∷ []) h (stops_after code w v) (keeps_on slot m (keeps_less slot (slot_before c slot) (slot_at_most c slot) o))
              (pause_in h.left (slot_before c slot) n slot pc' stands inner (c ∷ []) (at_c h.left o) p)
              (λ s hs. let r = t s hs in let r' = u r.store r.holds in record { store = r'.store; turn = λ ks. subst (λ l. SingleTurn (left x ks) s (left z l) r'.store) (sym (append_assoc inner (c ∷ []) ks)) (after_steps (r.steps ks) (r'.turn (c ∷ ks))); holds = r'.holds })

    pub record Faulting (s : Store) (x : Doing) (e : Fault) (g : Variables) : Type 0 where
      pub store : Store
      pub fault_in : FaultsIn x s e store
      pub holds : HoldsAs cells g store

    module _ (slot : ℕ) where
      pub faulted : {a : Point} {f g : Variables} {x : Doing} {e : Fault} {pc' : ℕ} → FaultsAt code a g e → g.left ≡ f.left → ((s : Store) → HoldsAs cells f s → Faulting s x e g) → Does slot a f x pc'
      faulted {g = g} {e = e} z l t room =
          pauses z.stands (Faulted e) (S.Faulted e) [] g (record { last = z.last; walks = z.walks; stops = z.stops }) (keeps_all slot l) at_fault
          (λ s hs. let r = t s hs in record { store = r.store; turn = λ k. single_turn none (faults r.fault_in) refl; holds = r.holds })

      -- one step by an evaluation that sets cells
      pub outcome_result : {X : Type 0} {a : Point} {f : Variables} {o : Store → Outcome X} {To : X → Point → Type 0} {y : Doing} {pc' : ℕ} (next : X → Doing)
          → ((x : X) (k : List Context) → IsTrue (is_running (status (left (next x) k))))
          → ((x : X) (s s' : Store) (k : List Context) → o s ≡ Gives x s' → Step (left y k) s (left (next x) k) s')
          → ((e : Fault) (s s' : Store) → o s ≡ Faults e s' → FaultsIn y s e s')
          → Performs code cells f a o To → ((x : X) (b : Point) → To x b → Does slot b (frame_of b) (next x) pc') → Does slot a f y pc'
      outcome_result next runs step fault (performs x b w t l h) k =
          result_after slot w (keeps_all slot l) (λ s hs. let r = h s hs in record { store = r.store; steps = λ ks. more (step x s r.store ks r.gives_it) (runs x ks) none; holds = r.holds }) (k x b t)
      outcome_result next runs step fault (refuses e g z l h) k =
          faulted z l (λ s hs. let r = h s hs in record { store = r.store; fault_in = fault e s r.store r.faults_by; holds = r.holds })

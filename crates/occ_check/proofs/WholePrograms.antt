-- Whole programs: from the main process and its formals to what the program unfolds to.
use Rattle.std.proofs.Common.{◌≡◌, ◌∙◌, sym, ap, refl, ℕ, List, [], Option, Some, None, reverse}
use Rattle.occ_tree_grammar.specs.Many.{◌>>=◌}
use Rattle.occ_tree_grammar.specs.Processes.Trees.{Item}
use Rattle.occ_term.specs.Terms.{Term, Declaration}
use Rattle.occ_term.specs.View.{term_of}
use Rattle.occ_term.specs.declared.term.Term.{Term as TermTree}
use Rattle.occ_check_meaning.specs.Actions.{headed, opening}
use Rattle.occ_check_meaning.specs.Numbers.{Numbers, at_start}
use Rattle.occ_check_meaning.specs.Performing.{behind, Calling, Entered, entered}
use Rattle.occ_check_meaning.specs.Programs.{Main, channels_from, items_declared, main_of, main_names, program_unfolded}
use Rattle.occ_check_meaning.specs.ProgramUnfolding.{UnfoldsTo}
use Rattle.occ_check_meaning.specs.Recursion.{unfolded}
use Rattle.occ_check_meaning.specs.Scope.{Name, Pairs, Scope, within}
use Rattle.occ_check_meaning.specs.Unfolding.{Procedures}
use Rattle.occ_check_meaning.specs.Meant.{meant}
use Rattle.occ_check_meaning.proofs.Complete.{program_complete}
use Rattle.occ_check_meaning.proofs.Names.{meant_within}
use Rattle.occ_check_meaning.proofs.SoundTree.{program_sound}
use Rattle.occ_check.specs.CheckRefuses.{CheckRefuses, HasNoUnfolding}
use Rattle.occ_check.specs.Program.{items_within}
use Rattle.occ_check_lines.specs.View.{Refuses, numbers_of, scope_in}
use Rattle.occ_check_lines.specs.declared.numbers.Numbers.{Numbers as Given}
use Rattle.occ_check_lines.specs.declared.scope.Block.{Block}
use Rattle.occ_check_lines.specs.declared.scope.Position.{Position}
use Rattle.occ_check_lines.specs.declared.fault.CheckFault.{CheckFault}
use Rattle.occ_check_lines.specs.declared.fault.CheckFault.TheVariants.{Unknown, Twice, WrongKind, WrongType, NotConstant, BadCount, Subscript, Protocol, Tag, Arguments, Overlap, ListTarget, NoMain, TooLarge, Memory}
use Rattle.occ_check_lines.proofs.Refusals.{none_then, refused_with}

module _ (items : List Item) where
  pub no_main : (e : CheckFault) → Refuses e (main_of items) → Refuses e (program_unfolded items)
  no_main e = refused_with e _ _ (λ h. none_then _ h)

  module _ (main : Main) (found : main_of items ≡ Some main) where
    pub no_names : (e : CheckFault) → Refuses e (main_names main.formals) → Refuses e (program_unfolded items)
    no_names e = refused_with e _ _ (λ h. ap (λ o. o >>= after) found ∙ none_then _ h)
      where
        after : Main → Option (Term × Numbers)
        after main = do
          xs ← main_names main.formals
          d ← items_declared main.before [] 1 at_start
          o ← opening d.heads 0 d.numbers
          t ← unfolded main.body (within (channels_from 0 xs) d.scope) o.0 o.1
          Some (headed d.heads t.0, t.1)

    module _ (xs : List Name) (named : main_names main.formals ≡ Some xs) (names : Pairs) (are : names ≡ channels_from 0 xs) where
      abbrev then_body : Pairs → Entered Calling → Option (Term × Numbers)
      then_body names d = do
        o ← opening d.heads 0 d.numbers
        t ← unfolded main.body (within names d.scope) o.0 o.1
        Some (headed d.heads t.0, t.1)

      abbrev whole : Scope Calling → Numbers → Option (Term × Numbers)
      whole sc n = behind (items_within main.before names) (unfolded main.body) sc 0 n

      program_is : program_unfolded items ≡ whole [] at_start
      program_is =
          ap (λ o. o >>= λ main. main_names main.formals >>= λ xs. items_declared main.before [] 1 at_start >>= λ d. opening d.heads 0 d.numbers >>= λ o. unfolded main.body (within (channels_from 0 xs) d.scope) o.0 o.1 >>= λ t. Some (headed d.heads t.0, t.1)) found
          ∙ ap (λ o. o >>= λ xs. items_declared main.before [] 1 at_start >>= then_body (channels_from 0 xs)) named
          ∙ ap (λ ns. items_declared main.before [] 1 at_start >>= then_body ns) (sym are)
          ∙ by (items_declared main.before [] 1 at_start)
        where
          by : (o : Option (Entered Calling)) → (o >>= then_body names) ≡ (o >>= (λ d. Some (entered (within names d.scope) d.heads d.numbers)) >>= λ d. opening d.heads 0 d.numbers >>= λ o. unfolded main.body d.scope o.0 o.1 >>= λ t. Some (headed d.heads t.0, t.1))
          by None = refl
          by (Some d) = refl

      module _ (sc : Scope Calling) (n : Numbers) (nothing : sc ≡ []) (first : n ≡ at_start) where
        begun : program_unfolded items ≡ whole sc n
        begun = program_is ∙ sym (λ i. whole (nothing i) (first i))

        pub body_refused : (e : CheckFault) → Refuses e (whole sc n) → Refuses e (program_unfolded items)
        body_refused e = refused_with e _ _ (λ h. begun ∙ h)

        pub body_done : (t : Term × Numbers) → whole sc n ≡ Some t → program_unfolded items ≡ Some t
        body_done t h = begun ∙ h

-- nothing is in scope where no block is open
pub at_nowhere : (blocks : List Block) (at : Position) → blocks ≡ [] → meant (scope_in (reverse blocks) at) ≡ []
unfolding meant
at_nowhere blocks at none = ap (λ fs. meant (scope_in (reverse fs) at)) none

-- names inside of items
pub names_inside : (items : List Item) (names : Pairs) (sc : Scope Calling) (depth : ℕ) (n m : Numbers) (old new : Procedures) (heads : List Declaration)
    → items_declared items sc depth n ≡ Some (entered (meant old) heads m) → new ≡ within names old → items_within items names sc depth n ≡ Some (entered (meant new) heads m)
names_inside items names sc depth n m old new heads h is =
    ap (λ o. o >>= λ d. Some (entered (within names d.scope) d.heads d.numbers)) h
    ∙ ap (λ sc. Some (entered sc heads m)) (sym (meant_within names old) ∙ sym (ap meant is))

-- ---- what is refused has no unfolding

none_unfolds : (items : List Item) → program_unfolded items ≡ None → HasNoUnfolding items
none_unfolds items h t m u = let e : program_unfolded items ≡ Some (t, m) = program_complete u in absurd cc

pub all_refused : (e : CheckFault) (items : List Item) → Refuses e (program_unfolded items) → CheckRefuses e items
all_refused (Unknown line x) items h = none_unfolds items h
all_refused (Twice line x) items h = none_unfolds items h
all_refused (WrongKind line) items h = none_unfolds items h
all_refused (WrongType line) items h = none_unfolds items h
all_refused (NotConstant line) items h = none_unfolds items h
all_refused (BadCount line) items h = none_unfolds items h
all_refused (Subscript line) items h = none_unfolds items h
all_refused (Protocol line) items h = none_unfolds items h
all_refused (Tag line) items h = none_unfolds items h
all_refused (Arguments line) items h = none_unfolds items h
all_refused (Overlap line) items h = none_unfolds items h
all_refused (ListTarget line) items h = none_unfolds items h
all_refused NoMain items h = none_unfolds items h
all_refused TooLarge items h = none_unfolds items h
all_refused Memory items h = tt

-- ---- what is found is an unfolding

pub found_unfolds : (items : List Item) (t : TermTree) (n : Given) → program_unfolded items ≡ Some (term_of t, numbers_of n) → UnfoldsTo items (record { term = t; cells = n.cells.items; channels = n.channels.items })
found_unfolds items t n h = (numbers_of n, program_sound items (term_of t, numbers_of n) h, refl, refl)

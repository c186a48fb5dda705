-- What IF, CASE and ALT select, and by which arm an ALT goes on.
-- Manual: combining processes; channels and protocols.
use Rattle.std.specs.Prelude.{Bool, List, None, Option, Some, [], false, if◌then◌else◌, length, nat_eq, pos, slice_get, suc, true, zero, ℕ, ℤ, ◌%◌, ◌++◌, ◌+ℤ◌, ◌||◌, ◌∷◌}
use Rattle.occ_term.specs.Messages.{Part, Message}
use Rattle.occ_term.specs.Terms.{Expression, Declaration, Term, Arms, no_arms, skip_arm, input_arm, declared_arms, each_arm, Reception, Plain, Tagged, Variants, no_variants, or_variant, Choices, no_choices, or_choice, declared_choices, each_choice, Options, no_options, or_option, or_else, tested}
use Rattle.occ_term.specs.Values.{Store, store_with, holds, int_eq, first_of, value_of, span_of}
use Rattle.occ_term.specs.Storing.{Outcome, Gives, Faults, then_in, in_store, Nothing, nothing, store_into, declared, all_declared, Indices, indices, indices_of, index_of}

-- ---- IF: the first true condition (manual: combining processes)

-- `None` where none is true
abbrev pub or_next : Outcome (Option Term) → (Store → Outcome (Option Term)) → Outcome (Option Term)
or_next (Gives None s) others = others s
or_next (Gives (Some t) s) others = Gives (Some t) s
or_next (Faults e s) others = Faults e s

-- the index set to base, base + 1 and so on, until one selects
abbrev pub first_over : (Store → Outcome (Option Term)) → ℕ → ℤ → ℕ → Store → Outcome (Option Term)
first_over select index v zero s = Gives None s
first_over select index v (suc n) s = or_next (select (store_with s index v)) (λ s'. first_over select index (v +ℤ pos 1) n s')

abbrev pub choice_over : (Store → Outcome (Option Term)) → ℕ → Indices → Store → Outcome (Option Term)
choice_over select index (indices base count) s = first_over select index base count s

abbrev pub choice_of : Choices → Store → Outcome (Option Term)
choice_of no_choices s = Gives None s
choice_of (or_choice test body others) s =
    then_in (in_store (value_of test s) s) (λ v s'. if holds v then Gives (Some body) s' else choice_of others s')
choice_of (declared_choices d within others) s = or_next (then_in (declared d s) (λ x s'. choice_of within s')) (λ s'. choice_of others s')
choice_of (each_choice over within others) s =
    or_next (then_in (in_store (indices_of over s) s) (λ is s'. choice_over (choice_of within) (index_of over) is s')) (λ s'. choice_of others s')

-- ---- CASE: the option with the selector's value, else ELSE (manual: combining processes; a selector of type BYTE: own)

pub data Selected : Type 0 where
  selected : (declarations : List Declaration) (body : Term) → Selected

abbrev pub is_among : ℤ → List ℤ → Bool
is_among v [] = false
is_among v (c ∷ cs) = int_eq v c || is_among v cs

abbrev pub matching : ℤ → Options → Option Selected
matching v no_options = None
matching v (or_option constants ds body others) = if is_among v constants then Some (selected ds body) else matching v others
matching v (or_else ds body others) = matching v others

abbrev pub else_of : Options → Option Selected
else_of no_options = None
else_of (or_option constants ds body others) = else_of others
else_of (or_else ds body others) = Some (selected ds body)

abbrev pub either : Option Selected → Option Selected → Option Selected
either None other = other
either (Some x) other = Some x

abbrev pub enters : Option Selected → Store → Outcome (Option Term)
enters None s = Gives None s
enters (Some (selected ds body)) s = then_in (all_declared ds s) (λ x s'. Gives (Some body) s')

-- the body, its declarations set
abbrev pub option_of : Expression → Options → Store → Outcome (Option Term)
option_of e options s = then_in (in_store (value_of e s) s) (λ v s'. enters (either (matching v options) (else_of options)) s')

-- ---- a message taken (manual: channels and protocols; that targets' subscripts are evaluated after the communication: own)

abbrev pub variant_taken : ℕ → List Part → Variants → Store → Outcome (Option Term)
variant_taken tag ps no_variants s = Gives None s
variant_taken tag ps (or_variant t ds targets body others) s =
    if nat_eq tag t
    then then_in (all_declared ds s) (λ x s'. then_in (store_into targets ps s') (λ y s''. Gives (Some body) s''))
    else variant_taken tag ps others s

abbrev pub tag_taken : Option ℕ → List Part → Variants → Store → Outcome (Option Term)
tag_taken None ps vs s = Gives None s
tag_taken (Some tag) ps vs s = variant_taken tag ps vs s

-- `None` for a tag that is not listed
abbrev pub taken : Reception → Message → Store → Outcome (Option Term)
taken (Plain targets body) m s = then_in (store_into targets m.items s) (λ x s'. Gives (Some body) s')
taken (Tagged vs) m s = tag_taken m.tag m.items vs s

-- ---- ALT: the enabled arms at the stop (manual: combining processes; that all are evaluated, in textual order: own)

-- what the rest of an arm sets again: an index of a replicator round it, or a declaration
pub data Setting : Type 0 where
  IndexTo : (cell : ℕ) (value : ℤ) → Setting
  DeclaredAgain : (declaration : Declaration) → Setting

abbrev pub set_one : Setting → Store → Outcome Nothing
set_one (IndexTo cell v) s = Gives nothing (store_with s cell v)
set_one (DeclaredAgain d) s = declared d s

-- from the outermost
abbrev pub set_again : List Setting → Store → Outcome Nothing
set_again [] s = Gives nothing s
set_again (x ∷ xs) s = then_in (set_one x s) (λ y s'. set_again xs s')

-- an arm with a true Boolean, its channel, and what its rest sets again
pub data Enabled : Type 0 where
  SkipArm : (again : List Setting) (body : Term) → Enabled
  InputArm : (again : List Setting) (channel : ℕ) (list : Reception) → Enabled

abbrev pub and_arm : Enabled → Outcome (List Enabled) → Outcome (List Enabled)
and_arm a (Gives arms s) = Gives (a ∷ arms) s
and_arm a (Faults e s) = Faults e s

abbrev pub and_arms : Outcome (List Enabled) → (Store → Outcome (List Enabled)) → Outcome (List Enabled)
and_arms first others = then_in first (λ arms s. then_in (others s) (λ arms' s'. Gives (arms ++ arms') s'))

-- the arms within, for the index set to base, base + 1 and so on
abbrev pub each_over : (List Setting → Store → Outcome (List Enabled)) → ℕ → ℤ → ℕ → List Setting → Store → Outcome (List Enabled)
each_over within index v zero ds s = Gives [] s
each_over within index v (suc n) ds s =
    and_arms (within (ds ++ IndexTo index v ∷ []) (store_with s index v)) (λ s'. each_over within index (v +ℤ pos 1) n ds s')

abbrev pub arms_over : (List Setting → Store → Outcome (List Enabled)) → ℕ → Indices → List Setting → Store → Outcome (List Enabled)
arms_over within index (indices base count) ds s = each_over within index base count ds s

-- In textual order; `ds` are the settings of what stands round these arms. The channel's subscript only where the Boolean is true.
abbrev pub enabled : Arms → List Setting → Store → Outcome (List Enabled)
enabled no_arms ds s = Gives [] s
enabled (skip_arm test body others) ds s =
    then_in (in_store (value_of test s) s) (λ v s'. if holds v then and_arm (SkipArm ds body) (enabled others ds s') else enabled others ds s')
enabled (input_arm test channel list others) ds s =
    then_in (in_store (value_of (tested test) s) s) (λ v s'.
    if holds v
    then then_in (in_store (span_of channel s') s') (λ c s''. and_arm (InputArm ds (first_of c) list) (enabled others ds s''))
    else enabled others ds s')
enabled (declared_arms d within others) ds s =
    and_arms (then_in (declared d s) (λ x s'. enabled within (ds ++ DeclaredAgain d ∷ []) s')) (λ s'. enabled others ds s')
enabled (each_arm over within others) ds s =
    and_arms (then_in (in_store (indices_of over s) s) (λ is s'. arms_over (enabled within) (index_of over) is ds s')) (λ s'. enabled others ds s')

-- ---- ALT: the arm that is taken (manual: combining processes; the choice by a number: own)

-- The rule is one for all arms that wait for a channel, or for none, which is SKIP.

-- ready: SKIP, or an offer stands on the channel, whatever its tag (own)
abbrev pub is_ready_on : (ℕ → Bool) → Option ℕ → Bool
is_ready_on offers None = true
is_ready_on offers (Some c) = offers c

abbrev pub ready_among : {A : Type 0} → (A → Option ℕ) → (ℕ → Bool) → List A → List A
ready_among channel offers [] = []
ready_among channel offers (a ∷ arms) =
    if is_ready_on offers (channel a) then a ∷ ready_among channel offers arms else ready_among channel offers arms

-- the rule: the first ready one with priority, else the one with the number `pick` modulo the ready ones
abbrev pub chosen_of : {A : Type 0} → (A → Option ℕ) → Bool → ℕ → (ℕ → Bool) → List A → Option A
chosen_of channel pri pick offers arms =
    slice_get (ready_among channel offers arms) (if pri then 0 else pick % length (ready_among channel offers arms))

abbrev pub waits_for : Enabled → Option ℕ
waits_for (SkipArm again body) = None
waits_for (InputArm again c list) = Some c

abbrev pub chosen : Bool → ℕ → (ℕ → Bool) → List Enabled → Option Enabled
chosen pri pick offers arms = chosen_of waits_for pri pick offers arms

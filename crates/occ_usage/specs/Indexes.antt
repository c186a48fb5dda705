-- Uses sorted, so that the first number of a span that is among them is found at once.
-- Manual: nothing; this is (own).
use Rattle.std.specs.Prelude.{Bool, List, None, Option, Some, [], false, max, nat_lt, take, true, ℕ, ◌<◌, ◌≤◌, ◌∷◌, ◌≡◌, ◌⊎◌}
use Rattle.std.specs.List.{All, list_any}
use Rattle.std.specs.List.Sorted.{IsNonDecreasingBy}
use Rattle.occ_term.specs.Uses.{Numbers, Uses, empty_set}
use Rattle.occ_usage.specs.Noted.{between}
use Rattle.occ_usage.specs.declared.noted.Kind.{Kind}
use Rattle.occ_usage.specs.declared.noted.Kind.TheVariants.{Read, Write, Input, Output}
use Rattle.occ_usage.specs.declared.noted.Found.{Found}
use Rattle.occ_usage.specs.declared.noted.Rule.{Rule}
use Rattle.occ_usage.specs.declared.index.Span.{Span}
use Rattle.occ_usage.specs.declared.index.Index.{Index}
use Rattle.occ_usage.specs.declared.clashes.Indexes.{Indexes}

-- those used so
abbrev pub used : Kind → Uses → Numbers
used Read u = u.reads
used Write u = u.writes
used Input u = u.ins
used Output u = u.outs

abbrev pub same_kind : Kind → Kind → Bool
same_kind Read Read = true
same_kind Read Write = false
same_kind Read Input = false
same_kind Read Output = false
same_kind Write Read = false
same_kind Write Write = true
same_kind Write Input = false
same_kind Write Output = false
same_kind Input Read = false
same_kind Input Write = false
same_kind Input Input = true
same_kind Input Output = false
same_kind Output Read = false
same_kind Output Write = false
same_kind Output Input = false
same_kind Output Output = true

abbrev pub covered : List Span → Numbers
covered spans = λ c. list_any (λ s. between s.first s.end c) spans

-- the furthest end up to each span
abbrev pub furthest : ℕ → List Span → List ℕ
furthest so_far [] = []
furthest so_far (s ∷ ss) = max so_far s.end ∷ furthest (max so_far s.end) ss

abbrev pub AreFilled : List Span → Type 0
AreFilled spans = All (λ s. s.first < s.end) spans

pub record IsIndex (index : Index) : Type 0 where
  pub rises : IsNonDecreasingBy (λ s. s.first) index.spans.items
  pub filled : AreFilled index.spans.items
  pub ends : index.ends.items ≡ furthest 0 index.spans.items

pub record AreIndexes (all : Indexes) : Type 0 where
  pub reads : IsIndex all.reads
  pub writes : IsIndex all.writes
  pub inputs : IsIndex all.inputs
  pub outputs : IsIndex all.outputs

abbrev pub indexed : Indexes → Uses
indexed all =
    record { reads = covered all.reads.spans.items; writes = covered all.writes.spans.items; ins = covered all.inputs.spans.items; outs = covered all.outputs.spans.items }

-- a number of the span that is in the set: none, or this one
pub record IsWithin (number : Option ℕ) (set : Numbers) (first end : ℕ) : Type 0 where
  pub none : number ≡ None → (c : ℕ) → first ≤ c → c < end → set c ≡ false
  pub some : (n : ℕ) → number ≡ Some n → (first ≤ n) × (n < end) × (set n ≡ true)

-- one of two, and none only where neither is
pub record IsOne (number a b : Option ℕ) : Type 0 where
  pub none : number ≡ None → (a ≡ None) × (b ≡ None)
  pub one : (number ≡ a) ⊎ (number ≡ b)

-- one of the first spans ends after the number
abbrev pub reaches : List Span → ℕ → ℕ → Bool
reaches spans begun number = list_any (λ s. nat_lt number s.end) (take begun spans)

-- the span of a use, where it is of that kind and has numbers
pub record IsSpanOf (span : Option Span) (numbers : Numbers) : Type 0 where
  pub none : span ≡ None → numbers ≡ empty_set
  pub some : (s : Span) → span ≡ Some s → (s.first < s.end) × (numbers ≡ between s.first s.end)

-- what an answer says of the number that was looked for
pub record Tells (found : Option Found) (rule : Rule) (number : Option ℕ) : Type 0 where
  pub none : found ≡ None → number ≡ None
  pub some : (f : Found) → found ≡ Some f → (f.rule ≡ rule) × (number ≡ Some f.number)

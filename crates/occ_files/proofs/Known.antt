-- Known bytes that are read in several steps.
use Rattle.std.proofs.Common.{◌≡◌, ◌∙◌, ℕ, ◌≤◌, List, ◌++◌, length, take, Option, Some, None, IfSome, refl, sym, ap, subst, arith}
use Rattle.std.proofs.lemmas.List.{append-nil, take_all, take-append-le}
use Rattle.std.proofs.KnownBytes.{Consumes-trans}
use Rattle.std.specs.Io.KnownBytes.{Consumes, IsAtEnd, Keeps}
use Rattle.occ_files.specs.declared.reader.CountedReader.{CountedReader}
use Rattle.occ_files.specs.declared.fault.InputFault.{InputFault}
use Rattle.occ_files.specs.declared.fault.InputFault.TheVariants.{Read, Memory}
use Rattle.occ_files.specs.Reading.{Grows, TellsReason, breaks_of, failures_of, reader_of}

pub Keeps-same : (a : Option (List ℕ)) → Keeps a a
Keeps-same None = tt
Keeps-same (Some x) = refl

pub Keeps-join : (a b c : Option (List ℕ)) → Keeps a b → Keeps b c → Keeps a c
Keeps-join None b c p q = tt
Keeps-join (Some x) None c p q = absurd p
Keeps-join (Some x) (Some y) None p q = absurd q
Keeps-join (Some x) (Some y) (Some z) p q = q ∙ p

-- bytes that were kept are consumed later
pub Consumes-after : (a b c : Option (List ℕ)) (bs : List ℕ) → Keeps a b → Consumes b c bs → Consumes a c bs
Consumes-after None b c bs p q = tt
Consumes-after (Some x) None c bs p q = absurd p
Consumes-after (Some x) (Some y) None bs p q = absurd q
Consumes-after (Some x) (Some y) (Some z) bs p q = sym p ∙ q

-- some bytes, and then some more
pub Consumes-more : {R : Type 0} (remaining : R → Option (List ℕ)) (first : Option (List ℕ)) (old new : CountedReader R) (before after : List ℕ)
    → Consumes first (remaining (reader_of old)) before → Grows remaining old new before after → Consumes first (remaining (reader_of new)) after
Consumes-more remaining first old new before after h g =
    subst (Consumes first (remaining (reader_of new))) (sym g.added) (Consumes-trans first (remaining (reader_of old)) (remaining (reader_of new)) before g.more h g.next)

-- so many bytes as were asked for are the first ones
pub first-bytes : (a b : Option (List ℕ)) (bs : List ℕ) (most : ℕ) → Consumes a b bs → length bs ≡ most → IfSome a (λ xs. bs ≡ take most xs)
first-bytes None b bs most h e = tt
first-bytes (Some x) None bs most h e = absurd h
first-bytes (Some x) (Some y) bs most h e =
    sym (rw h (take-append-le most bs y (omega (arith, e))) ∙ take_all most bs (omega (arith, e)))

-- fewer are all of them, where the reader is at its end
pub all-bytes : (a b : Option (List ℕ)) (bs : List ℕ) (most : ℕ) → Consumes a b bs → IsAtEnd b → length bs ≤ most → IfSome a (λ xs. bs ≡ take most xs)
all-bytes None b bs most h e few = tt
all-bytes (Some x) None bs most h e few = absurd h
all-bytes (Some x) (Some y) bs most h e few =
    let whole : x ≡ bs = h ∙ ap (λ l. bs ++ l) e ∙ append-nil bs in
    sym (rw whole (take_all most bs few))

-- a fault told of the rest is told of the whole
pub Tells-after : {R : Type 0} (first old new : CountedReader R) (fault : InputFault) → failures_of first ≤ failures_of old → breaks_of old ≡ breaks_of first → TellsReason old new fault → TellsReason first new fault
Tells-after first old new (Read reason) counted unbroken h = let more = h.0 in (omega (arith, counted, more), h.1)
Tells-after first old new Memory counted unbroken h = h ∙ unbroken

-- Which protocols have tags.
use Rattle.std.proofs.Common.{◌≡◌, ℕ, List, Some}
use Rattle.occ_term.specs.declared.protocol.PartType.{PartType}
use Rattle.occ_term.specs.declared.protocol.Protocol.{Protocol}
use Rattle.occ_term.specs.declared.protocol.Protocol.TheVariants.{Simple, CountedArray, Sequential, Variant}
use Rattle.occ_term.specs.Messages.{parts_after}
use Rattle.occ_term.specs.TermTyping.{HasTags}
use Rattle.occ_check_meaning.specs.Actions.{with_tags}

pub tagged_by : (p : Protocol) (k : ℕ) (parts : List PartType) → parts_after p (Some k) ≡ Some parts → HasTags p
tagged_by (Simple sizes type) k parts h = absurd cc
tagged_by (CountedArray count type) k parts h = absurd cc
tagged_by (Sequential ts) k parts h = absurd cc
tagged_by (Variant tags) k parts h = tt

pub tagged_with : (q p : Protocol) → with_tags q ≡ Some p → HasTags p
tagged_with q (Variant tags) h = tt
tagged_with (Variant tags) (Simple sizes type) h = absurd cc
tagged_with (Variant tags) (CountedArray count type) h = absurd cc
tagged_with (Variant tags) (Sequential ts) h = absurd cc
tagged_with (Simple s t) (Simple sizes type) h = absurd cc
tagged_with (Simple s t) (CountedArray count type) h = absurd cc
tagged_with (Simple s t) (Sequential ts) h = absurd cc
tagged_with (CountedArray c t) (Simple sizes type) h = absurd cc
tagged_with (CountedArray c t) (CountedArray count type) h = absurd cc
tagged_with (CountedArray c t) (Sequential ts) h = absurd cc
tagged_with (Sequential ps) (Simple sizes type) h = absurd cc
tagged_with (Sequential ps) (CountedArray count type) h = absurd cc
tagged_with (Sequential ps) (Sequential ts) h = absurd cc

-- One choice more of those that a seed stands for.
use Rattle.std.proofs.Common.{◌≡◌, ◌∙◌, ℕ, suc, ◌+◌, ◌-◌, ◌<◌, ◌/◌, List, [], ◌∷◌, ◌++◌, sym, ap, subst, append_assoc, arith}
use Rattle.occ_net_replay.specs.declared.choice.Choice.{Choice}
use Rattle.occ_play_inputs.specs.Seeds.{number_after, seeded}

-- the two numbers behind this one, as a choice
abbrev pub choice_after : ℕ → Choice
choice_after x = record { which = number_after x / 65536; pick = number_after (number_after x) / 65536 }

pub one_more : (cs all : List Choice) (x n i : ℕ) → i < n → cs ++ seeded x (n - i) ≡ all → (cs ++ choice_after x ∷ []) ++ seeded (number_after (number_after x)) (n - (i + 1)) ≡ all
one_more cs all x n i h e =
    let left : n - i ≡ suc (n - (i + 1)) = omega arith in
    append_assoc cs (choice_after x ∷ []) (seeded (number_after (number_after x)) (n - (i + 1))) ∙ sym (ap (λ m. cs ++ seeded x m) left) ∙ e

-- the same, of numbers that are known to be made so
pub pushed : (cs new all : List Choice) (x w p n i : ℕ) → w ≡ number_after x → p ≡ number_after w → new ≡ cs ++ (record { which = w / 65536; pick = p / 65536 }) ∷ []
    → i < n → cs ++ seeded x (n - i) ≡ all → new ++ seeded p (n - (i + 1)) ≡ all
pushed cs new all x w p n i first second is h e =
    subst (λ ds. ds ++ seeded p (n - (i + 1)) ≡ all) (sym is)
    (subst (λ q. (cs ++ (record { which = w / 65536; pick = q / 65536 }) ∷ []) ++ seeded q (n - (i + 1)) ≡ all) (sym second)
    (subst (λ v. (cs ++ (record { which = v / 65536; pick = number_after v / 65536 }) ∷ []) ++ seeded (number_after v) (n - (i + 1)) ≡ all) (sym first)
    (one_more cs all x n i h e)))

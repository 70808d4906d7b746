-- What holds of each element of a list holds of the one that is taken off its end, and of the others.
use Rattle.std.proofs.Common.{◌≡◌, ℕ, ◌<◌, List, ◌++◌, length, get_or, ◌∙◌, subst, append-nil, Option, Some, None, IfSome, option_to_list, All}
use Rattle.cd_ring.proofs.Workers.{last_holds, others_hold}

pub last_if_some : {A : Type 0} (P : A → Type 0) (old new : List A) (o : Option A) → old ≡ new ++ option_to_list o → All P old → IfSome o P
last_if_some P old new None e all = tt
last_if_some P old new (Some x) e all = last_holds P new x (subst (All P) e all)

pub others_of_pop : {A : Type 0} (P : A → Type 0) (old new : List A) (o : Option A) → old ≡ new ++ option_to_list o → All P old
    → (k : ℕ) (d : A) → k < length new → P (get_or new k d)
others_of_pop P old new None e all = subst (All P) (e ∙ append-nil new) all
others_of_pop P old new (Some x) e all = others_hold P new x (subst (All P) e all)

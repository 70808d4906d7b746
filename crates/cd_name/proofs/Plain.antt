-- A name that is spelled without pointers is read as itself.
use Rattle.std.proofs.Common.{◌≡◌, ℕ, ◌+◌, ◌<◌, false, List, [], ◌∷◌, ◌++◌, length, get_or, refl, ap, sym, ◌∙◌, arith, append_assoc, length-append, subst}
use Rattle.std.proofs.lemmas.List.{get_or-append-add}
use Rattle.std.proofs.Math.Seq.{drop-append_seam, get_or-append_seam}
use Rattle.std.specs.List.{AllByRecursion}
use Rattle.cd_name.specs.Names.{IsName, label_run, LabelRun, NameAt, run_is_cut, is_short_end}
use Rattle.cd_name.specs.NameLaws.{IsLabel, label_bytes, PlainNamesAreRead}
use Rattle.cd_name.specs.Rules.{ReadsName, root}
use Rattle.cd_name.proofs.Runs.{run-root, run-label}
use Rattle.cd_name.proofs.Rules.{read_by_rules}
use Rattle.cd_name.proofs.Pointers.{labels_are_read}
use Rattle.cd_name.proofs.Spelled.{names_are_labels}

-- the rules read labels and the root as they are spelled
spelled_is_read : (labels : List (List ℕ)) (front after : List ℕ) → AllByRecursion IsLabel labels →
    ReadsName (front ++ (label_bytes labels ++ 0 ∷ after)) (length front) (length front) (label_bytes labels ++ 0 ∷ []) (length front + length (label_bytes labels) + 1)
spelled_is_read labels front after are =
    let p : List ℕ = front ++ (label_bytes labels ++ 0 ∷ after) in
    let at : ℕ = length front + length (label_bytes labels) in
    let there : at < length p = omega (arith, length-append front (label_bytes labels ++ 0 ∷ after), length-append (label_bytes labels) (0 ∷ after)) in
    let byte : get_or p at 0 ≡ 0 =
    get_or-append-add front (label_bytes labels ++ 0 ∷ after) (length (label_bytes labels)) 0 ∙ get_or-append_seam (label_bytes labels) 0 after 0 in
    labels_are_read labels front (0 ∷ after) (0 ∷ []) (length front) (at + 1) are (root (length front) at there byte)

-- a name that is spelled without pointers is read as itself
pub plain_names : PlainNamesAreRead
plain_names front name after is =
    let s = (names_are_labels name).0 is in
    let labels : List ℕ = label_bytes s.0 in
    let p : List ℕ = front ++ (labels ++ 0 ∷ after) in
    let whole : (front ++ (labels ++ 0 ∷ [])) ++ after ≡ p = append_assoc front (labels ++ 0 ∷ []) after ∙ ap (λ t. front ++ t) (append_assoc labels (0 ∷ []) after) in
    let size : length labels + 1 ≡ length (labels ++ 0 ∷ []) = omega (arith, length-append labels (0 ∷ [])) in
    let next : length front + length labels + 1 ≡ length front + length (labels ++ 0 ∷ []) = omega arith in
    let read : NameAt p (length front) (labels ++ 0 ∷ []) (length front + length labels + 1) =
    (read_by_rules p (length front) (labels ++ 0 ∷ []) (length front + length labels + 1)).1 (spelled_is_read s.0 front after s.1, omega (arith, ap length s.2, s.3)) in
    subst (λ (n : List ℕ). NameAt ((front ++ n) ++ after) (length front) n (length front + length n)) (sym s.2)
    (subst (λ t. NameAt t (length front) (labels ++ 0 ∷ []) (length front + length (labels ++ 0 ∷ []))) (sym whole)
    (subst (λ k. NameAt p (length front) (labels ++ 0 ∷ []) k) next read))

-- a run of labels ends as what is after them does
end_after_labels : (labels : List (List ℕ)) (more : List ℕ) → AllByRecursion IsLabel labels → (label_run 0 (label_bytes labels ++ more)).end ≡ (label_run 0 more).end
end_after_labels [] more are = refl
end_after_labels (l ∷ ls) more are =
    let after : List ℕ = label_bytes ls ++ more in
    ap (λ bs. (label_run 0 bs).end) (append_assoc (length l ∷ l) (label_bytes ls) more)
    ∙ ap (λ (r : LabelRun). r.end) (run-label (length l) (l ++ after) are.0.0 are.0.1 (omega (arith, length-append l after)))
    ∙ ap (λ bs. (label_run 0 bs).end) (drop-append_seam l after) ∙ end_after_labels ls more are.1

-- the run of a name that is spelled without pointers is not cut
pub plain_not_cut : (front name more : List ℕ) → IsName name → run_is_cut (front ++ (name ++ more)) (length front) ≡ false
plain_not_cut front name more is =
    let s = (names_are_labels name).0 is in
    let labels : List ℕ = label_bytes s.0 in
    ap (λ bs. is_short_end (label_run 0 bs).end) (drop-append_seam front (name ++ more) ∙ ap (λ n. n ++ more) s.2 ∙ append_assoc labels (0 ∷ []) more)
    ∙ ap is_short_end (end_after_labels s.0 (0 ∷ more) s.1) ∙ ap (λ (r : LabelRun). is_short_end r.end) (run-root 0 more refl)

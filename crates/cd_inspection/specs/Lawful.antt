-- What an inspection makes of bytes is lawful: what is written stays so, and what is refused stays so.
use Rattle.std.proofs.Common.{◌≡◌, ℕ, List, [], ◌++◌, Option, Some, None, refl, ap, sym, ◌∙◌}
use Rattle.std.proofs.lemmas.List.{append-nil}
use Rattle.cd_drive.specs.Behaviors.{IsLawful}
use Rattle.cd_file.specs.FileGrowth.{FilesGrow}
use Rattle.cd_file.specs.KeptFile.{kept_file, kept_refusal_in}
use Rattle.cd_file.specs.declared.refusal.BadFile.{BadFile}
use Rattle.cd_inspection.specs.Growing.{refused_stays, written_grows, nothing_unrefused}
use Rattle.cd_inspection.specs.Inspecting.{Rendering, inspecting}

-- bytes with a front that is refused are refused
stays_by : (grow : FilesGrow) (xs ys : List ℕ) (o : Option BadFile) → kept_refusal_in (kept_file xs) ≡ o →
    kept_refusal_in (kept_file (xs ++ ys)) ≡ None → kept_refusal_in (kept_file xs) ≡ None
stays_by grow xs ys None is none = is
stays_by grow xs ys (Some bad) is none = absurd (both (sym none ∙ ap kept_refusal_in (refused_stays grow xs ys bad is) ∙ is))
  where
    both : ◌≡◌ {A = Option BadFile} None (Some bad) → ⊥
    both e = cc

pub inspecting_lawful : {C : Type 0} (r : Rendering C) → FilesGrow → IsLawful (inspecting r)
inspecting_lawful r grow = record {
  grows = written_grows r grow;
  within = λ xs. ([], sym (append-nil _));
  stays = λ xs ys none. stays_by grow xs ys (kept_refusal_in (kept_file xs)) refl none;
  begins = nothing_unrefused;
}

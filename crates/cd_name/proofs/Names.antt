-- What is read is a name.
use Rattle.std.proofs.Common.{◌≡◌, ℕ, ◌<◌, ◌≤◌, true, List, [], length, refl, ◌∙◌, arith}
use Rattle.cd_name.specs.Names.{are_labels_and_root}
use Rattle.cd_name.specs.NameLaws.{NamesAreNames}
use Rattle.cd_name.specs.Rules.{ReadsName, root, label, pointer}
use Rattle.cd_name.proofs.Labels.{labels-root, no_labels, labels_with_label_at}
use Rattle.cd_name.proofs.Rules.{read_by_rules}

-- labels and the root, whose own bytes are within the payload
record IsNameWithin (p : List ℕ) (at : ℕ) (name : List ℕ) (next : ℕ) : Type 0 where
  are_labels : are_labels_and_root 0 name ≡ true
  after : at < next
  within : next ≤ length p

-- what the rules read is so
reads_name : {p : List ℕ} {s at : ℕ} {name : List ℕ} {next : ℕ} → ReadsName p s at name next → IsNameWithin p at name next
reads_name {p} (root s at h e) = record { are_labels = labels-root 0 [] refl refl; after = omega arith; within = omega arith }
reads_name {p} (label s at n labels next h deeper) =
    let d = reads_name deeper in
    record { are_labels = labels_with_label_at p [] at n no_labels h.1 h.2 h.3 h.0 labels ∙ d.are_labels; after = omega (arith, d.after); within = d.within }
reads_name {p} (pointer s at t labels next h k deeper) =
    record { are_labels = (reads_name deeper).are_labels; after = omega arith; within = omega (arith, h.0) }

-- what is read is a name within the payload
pub names_are_names : NamesAreNames
names_are_names p at name next h =
    let r = (read_by_rules p at name next).0 h in
    let d = reads_name r.0 in
    ((d.are_labels, r.1), d.after, d.within)

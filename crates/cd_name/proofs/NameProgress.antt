-- A name as it is written, label by label.
use Rattle.std.proofs.Common.{◌≡◌, ℕ, ◌+◌, ◌<◌, ◌≤◌, true, List, [], ◌∷◌, ◌++◌, length, take, drop, get_or, Some, None, refl, ap, sym, ◌∙◌, arith, append_assoc, length-append, inl, inr, subst}
use Rattle.std.specs.List.{All, Contains}
use Rattle.std.proofs.lemmas.Bool.{cases_lt, false≢true}
use Rattle.std.proofs.lemmas.List.{append-nil, drop-drop, length-drop, length-take-le, drop_all, take-append-drop}
use Rattle.std.proofs.lemmas.List.Elements.{All-nil, All-append, All-weaker, All-contains_itself}
use Rattle.cd_name.specs.Names.{are_labels_and_root, IsName}
use Rattle.cd_name.specs.WrittenNames.{Suffix, Written, Writes, least_offset, pointer_to, suffix_at, only_bytes, name_from, name_piece}
use Rattle.cd_name.proofs.Bytes.{drop-byte, take-label}
use Rattle.cd_name.proofs.LeastOffsets.{least_offset-after, longer_are_others}
use Rattle.cd_name.proofs.WrittenSteps.{suffix_at_only, written_before, written_before-twice, name_from-root, name_from-standing, name_from-label_of}
use Rattle.cd_name.proofs.Labels.{labels-label, labels-long, labels-short, labels-early_root, labels-label_at, labels-none_at}

-- How far a name is written after some bytes in which suffixes stand: up to an offset in it.
pub record Progress (standing : List Suffix) (front name : List ℕ) (here : ℕ) (message : List ℕ) (known : List Suffix) : Type 0 where
  pub bytes : List ℕ
  pub suffixes : List Suffix
  pub message_is : message ≡ front ++ bytes
  pub known_is : known ≡ standing ++ suffixes
  pub written : name_from standing (length front) 0 name ≡ written_before bytes suffixes (name_from standing (length message) 0 (drop here name))
  pub labels : are_labels_and_root 0 (drop here name) ≡ true
  pub longer : All (λ (s : Suffix). length (drop here name) < length s.name) suffixes

-- before the first label
pub progress_start : (standing : List Suffix) (front name : List ℕ) → IsName name → Progress standing front name 0 front standing
progress_start standing front name is =
    record {
      bytes = [];
      suffixes = [];
      message_is = sym (append-nil front);
      known_is = sym (append-nil standing);
      written = refl;
      labels = is.0;
      longer = All-nil (λ (s : Suffix). length (drop 0 name) < length s.name);
    }

-- the bytes of a label are there, and more after them
pub label_is_there : (name : List ℕ) (here n : ℕ) → are_labels_and_root 0 (drop here name) ≡ true → here < length name → get_or name here 0 ≡ n → 0 < n → (n ≤ 63) × (here + n + 1 < length name)
label_is_there name here n labels lt e h =
    let head : drop here name ≡ n ∷ drop (here + 1) name = drop-byte name here n e lt in
    let are : are_labels_and_root 0 (n ∷ drop (here + 1) name) ≡ true = ap (λ t. are_labels_and_root 0 t) (sym head) ∙ labels in
    let few : n ≤ 63 = elim (cases_lt 63 n) [ inl long ↦ absurd (false≢true (sym (labels-long n (drop (here + 1) name) long) ∙ are)) | inr short ↦ short ] in
    let size = length-drop (here + 1) name in (
      few,
      elim (cases_lt n (length (drop (here + 1) name))) [
        | inl there ↦ omega (arith, size)
        | inr cut ↦ absurd (false≢true (sym (labels-label n (drop (here + 1) name) h few ∙ labels-short n (drop (here + 1) name) cut) ∙ are))
      ],
    )

-- what stands of the rest of a name stood before it
rest_stood : {standing known : List Suffix} {front name message : List ℕ} {here : ℕ} → (g : Progress standing front name here message known) →
    least_offset known (drop here name) ≡ least_offset standing (drop here name)
rest_stood {standing} {known} {front} {name} {message} {here} g =
    ap (λ k. least_offset k (drop here name)) g.known_is ∙ least_offset-after standing g.suffixes (drop here name) (longer_are_others g.suffixes (drop here name) g.longer)

-- what is written of the rest of a name without suffixes ends the name
ends : {standing known : List Suffix} {front name message : List ℕ} {here : ℕ} → (g : Progress standing front name here message known) (new rest : List ℕ) →
    name_from standing (length message) 0 (drop here name) ≡ only_bytes rest → new ≡ message ++ rest → Writes (name_piece name) front standing new known
ends {standing} {known} {front} {name} {message} {here} g new rest last is =
    let all : name_from standing (length front) 0 name ≡ written_before g.bytes g.suffixes (only_bytes rest) = g.written ∙ ap (λ w. written_before g.bytes g.suffixes w) last in
    record {
      bytes = is ∙ ap (λ m. m ++ rest) g.message_is ∙ append_assoc front g.bytes rest ∙ ap (λ (w : Written). front ++ w.bytes) (sym all);
      suffixes = g.known_is ∙ ap (λ s. standing ++ s) (sym (append-nil g.suffixes)) ∙ ap (λ (w : Written). standing ++ w.suffixes) (sym all);
    }

-- the root
pub ends_with_root : {standing known : List Suffix} {front name message : List ℕ} {here : ℕ} → (g : Progress standing front name here message known) (new : List ℕ) →
    here < length name → get_or name here 0 ≡ 0 → new ≡ message ++ 0 ∷ [] → Writes (name_piece name) front standing new known
ends_with_root {standing} {known} {front} {name} {message} {here} g new lt e is =
    let head : drop here name ≡ 0 ∷ drop (here + 1) name = drop-byte name here 0 e lt in
    let none : drop (here + 1) name ≡ [] =
    elim (cases_lt 0 (length (drop (here + 1) name))) [
      | inl more ↦ absurd (false≢true (sym (labels-early_root 0 (drop (here + 1) name) refl more) ∙ ap (λ t. are_labels_and_root 0 t) (sym head) ∙ g.labels))
      | inr few ↦ drop_all (here + 1) name (omega (arith, length-drop (here + 1) name))
    ] in
    ends g new (0 ∷ []) (ap (λ t. name_from standing (length message) 0 t) (head ∙ ap (λ t. 0 ∷ t) none) ∙ name_from-root standing (length message) 0 [] refl) is

-- a pointer
pub ends_with_pointer : {standing known : List Suffix} {front name message : List ℕ} {here : ℕ} → (g : Progress standing front name here message known) (new : List ℕ) (n offset : ℕ) →
    here < length name → get_or name here 0 ≡ n → 0 < n → least_offset known (drop here name) ≡ Some offset → new ≡ message ++ pointer_to offset → Writes (name_piece name) front standing new known
ends_with_pointer {standing} {known} {front} {name} {message} {here} g new n offset lt e h stands is =
    let head : drop here name ≡ n ∷ drop (here + 1) name = drop-byte name here n e lt in
    let stood : least_offset standing (n ∷ drop (here + 1) name) ≡ Some offset = ap (λ t. least_offset standing t) (sym head) ∙ sym (rest_stood g) ∙ stands in
    ends g new (pointer_to offset) (ap (λ t. name_from standing (length message) 0 t) head ∙ name_from-standing standing (length message) n offset (drop (here + 1) name) h stood) is

-- suffixes that are longer than a rest are longer than a shorter one
longer_later : (a b : ℕ) (suffixes : List Suffix) → b ≤ a → All (λ (s : Suffix). a < length s.name) suffixes → All (λ (s : Suffix). b < length s.name) suffixes
longer_later a b suffixes le longer = λ k d lt. let h = longer k d lt in omega arith

-- a suffix at an offset is longer than a rest after it
suffix_is_longer : (b : ℕ) (name : List ℕ) (at : ℕ) → b < length name → All (λ (s : Suffix). b < length s.name) (suffix_at name at)
suffix_is_longer b name at lt =
    All-weaker (Contains (suffix_at name at)) (λ (s : Suffix). b < length s.name) (λ s h. omega (arith, ap length (suffix_at_only s name at h).0)) (suffix_at name at)
    (All-contains_itself (suffix_at name at))

-- a name that is written up to a label, and then the label, is written up to the bytes after it
label_written : (standing : List Suffix) (at later : ℕ) (whole : Written) (bytes : List ℕ) (suffixes : List Suffix) (rest first l more : List ℕ) →
    whole ≡ written_before bytes suffixes (name_from standing at 0 rest) → rest ≡ first ++ more → first ≡ length l ∷ l → 0 < length l → least_offset standing rest ≡ None →
    at + length first ≡ later → whole ≡ written_before (bytes ++ first) (suffixes ++ suffix_at rest at) (name_from standing later 0 more)
label_written standing at later whole bytes suffixes rest first l more so_far is_rest is_label some none place =
    let P : Written → Type 0 = λ w. whole ≡ written_before bytes suffixes w in
    let Q : Written → Type 0 = λ w. whole ≡ w in
    let R : ℕ → Type 0 = λ k. whole ≡ written_before (bytes ++ first) (suffixes ++ suffix_at rest at) (name_from standing k 0 more) in
    subst R place
    (subst Q (written_before-twice bytes first suffixes (suffix_at rest at) (name_from standing (at + length first) 0 more))
    (subst P (name_from-label_of standing at rest first l more is_rest is_label some none) so_far))

-- one more label
pub progress_label : {standing known : List Suffix} {front name message : List ℕ} {here : ℕ} → (g : Progress standing front name here message known) (new : List ℕ) (later : List Suffix) (n : ℕ) →
    here < length name → get_or name here 0 ≡ n → 0 < n → least_offset known (drop here name) ≡ None → new ≡ message ++ take (n + 1) (drop here name) →
    later ≡ known ++ suffix_at (drop here name) (length message) → Progress standing front name (here + n + 1) new later
progress_label {standing} {known} {front} {name} {message} {here} g new later n lt e h none is notes =
    let there = label_is_there name here n g.labels lt e h in
    let rest : List ℕ = drop here name in
    let more : List ℕ = drop (here + n + 1) name in
    let first : List ℕ = take (n + 1) rest in
    let l : List ℕ = take n (drop (here + 1) name) in
    let place : here + (n + 1) ≡ here + n + 1 = omega arith in
    let is_rest : rest ≡ first ++ more = sym (take-append-drop (n + 1) rest) ∙ ap (λ t. first ++ t) (drop-drop (n + 1) here name ∙ ap (λ k. drop k name) place) in
    let size : length l ≡ n = length-take-le n (drop (here + 1) name) (omega (arith, length-drop (here + 1) name, there.1)) in
    let is_label : first ≡ length l ∷ l = take-label name here n e lt ∙ ap (λ k. k ∷ l) (sym size) in
    let grown : length message + length first ≡ length new = sym (length-append message first) ∙ ap length (sym is) in
    let stood : least_offset standing rest ≡ None = sym (rest_stood g) ∙ none in
    let rest_size = length-drop here name in
    let more_size = length-drop (here + n + 1) name in
    record {
      bytes = g.bytes ++ first;
      suffixes = g.suffixes ++ suffix_at rest (length message);
      message_is = is ∙ ap (λ m. m ++ first) g.message_is ∙ append_assoc front g.bytes first;
      known_is = notes ∙ ap (λ k. k ++ suffix_at rest (length message)) g.known_is ∙ append_assoc standing g.suffixes (suffix_at rest (length message));
      written = label_written standing (length message) (length new) _ g.bytes g.suffixes rest first l more g.written is_rest is_label (omega arith) stood grown;
      labels = ap (λ k. are_labels_and_root 0 (drop k name)) (sym place) ∙ sym (labels-label_at name here n e h there.0 (omega (arith, there.1))) ∙ g.labels;
      longer = All-append (λ (s : Suffix). length more < length s.name) g.suffixes (suffix_at rest (length message))
          (longer_later (length rest) (length more) g.suffixes (omega arith) g.longer)
          (suffix_is_longer (length more) rest (length message) (omega arith));
    }

-- a name does not end before its root
pub no_end : {standing known : List Suffix} {front name message : List ℕ} {here : ℕ} → (g : Progress standing front name here message known) → length name ≤ here → ⊥
no_end {standing} {known} {front} {name} {message} {here} g h = false≢true (sym (labels-none_at name here h) ∙ g.labels)

-- A message that is read is valid.
use Rattle.std.proofs.Common.{◌≡◌, ℕ, zero, suc, ◌+◌, ◌-◌, ◌*◌, ◌≤◌, Bool, List, [], ◌∷◌, ◌++◌, length, drop, Ok, Option, None, Some, refl, ap, length-append, arith, true, false, subst, inl, inr, nat_eq, nat_lt, cond, ◌&&◌, ◌||◌, not, if◌then◌else◌, Fits, w8, get_or, ◌∙◌}
use Rattle.std.specs.List.{All, concat, count_by}
use Rattle.std.proofs.lemmas.List.{length-take}
use Rattle.std.proofs.lemmas.List.Elements.{All-nil, All-cons, All-head, All-tail}
use Rattle.std.proofs.lemmas.List.Sums.{sum_by-cons}
use Rattle.std.proofs.lemmas.Bool.{cases_Bool, eq-eqb, eqb-true, ltb-false}
use Rattle.cd_name.specs.Names.{IsName, name_at, are_labels_and_root}
use Rattle.cd_name.proofs.Names.{names_are_names}
use Rattle.cd_message.specs.declared.message.MsgWhy.TheVariants.{Short, Opt}
use Rattle.cd_message.specs.declared.message.Question.{Question}
use Rattle.cd_message.specs.declared.message.Rr.{Rr}
use Rattle.cd_message.specs.declared.message.Message.{Message}
use Rattle.cd_message.specs.declared.message.TheConstants.{OPT}
use Rattle.cd_message.specs.declared.shape.Shape as kind
use Rattle.cd_message.specs.Readings.{repeat}
use Rattle.cd_bytes.specs.Numbers.{be16}
use Rattle.cd_message.specs.Messages.{rdata_of_shape, why_of, name_in, question_at, breaks_opt_rule, record_after_owner, record_at, opt_allowed_after, record_step, records_at, message_of, rdata_at}
use Rattle.cd_message.specs.Shapes.{shape_of, shape, holds_name}
use Rattle.cd_message.specs.Valid.{FillsShape, KeepsShape, is_opt, ValidRecord, ValidSection, Valid}
use Rattle.cd_message.specs.MessageLaws.{AreBytes, MessagesAreValid}
use Rattle.cd_message.proofs.Binds.{bind_ok, ok_same, name_reading_ok, if_err_else}
use Rattle.cd_message.proofs.RdataShapes.{rdata_keeps_shape}

-- a name that is read is a name, within the payload
named : (p : List ℕ) (at : ℕ) (x : List ℕ × ℕ) → name_in p at ≡ Ok x → IsName x.0 × (x.1 ≤ length p)
unfolding name_in
named p at x h = let n = names_are_names p at x.0 x.1 (name_reading_ok why_of (name_at p at) x h) in (n.0, n.2)

-- two bytes make a number of at most 65,535
word_fits : (p : List ℕ) (k : ℕ) → AreBytes p → be16 k p ≤ 65535
unfolding be16
word_fits p k bytes = omega (arith, bytes k, bytes (k + 1))

-- at most 6 bytes, 2 names and 20 bytes
abbrev pub IsSmall : Option kind.Shape → Type 0
IsSmall None = Unit {0}
IsSmall (Some s) = (s.before ≤ 6) × (s.names ≤ 2) × (s.after ≤ 20)

-- a choice of two small shapes
choice_is_small : (b : Bool) (x y : Option kind.Shape) → IsSmall x → IsSmall y → IsSmall (cond b x y)
choice_is_small true x y h k = h
choice_is_small false x y h k = k

-- a small shape
shape_is_small : (before names after : ℕ) (compressed : Bool) → before ≤ 6 → names ≤ 2 → after ≤ 20 → IsSmall (shape before names after compressed)
shape_is_small before names after compressed h k m = (h, k, m)

-- each shape is small
pub shapes_are_small : (t : ℕ) → IsSmall (shape_of t)
unfolding shape_of
shapes_are_small t =
    choice_is_small (holds_name t) (shape 0 1 0 true) _ (shape_is_small 0 1 0 true (omega arith) (omega arith) (omega arith))
    (choice_is_small (nat_eq t 6) (shape 0 2 20 true) _ (shape_is_small 0 2 20 true (omega arith) (omega arith) (omega arith))
    (choice_is_small (nat_eq t 14) (shape 0 2 0 true) _ (shape_is_small 0 2 0 true (omega arith) (omega arith) (omega arith))
    (choice_is_small (nat_eq t 15) (shape 2 1 0 true) _ (shape_is_small 2 1 0 true (omega arith) (omega arith) (omega arith))
    (choice_is_small (nat_eq t 17) (shape 0 2 0 false) _ (shape_is_small 0 2 0 false (omega arith) (omega arith) (omega arith))
    (choice_is_small (nat_eq t 18 || nat_eq t 21) (shape 2 1 0 false) _ (shape_is_small 2 1 0 false (omega arith) (omega arith) (omega arith))
    (choice_is_small (nat_eq t 26) (shape 2 2 0 false) _ (shape_is_small 2 2 0 false (omega arith) (omega arith) (omega arith))
    (choice_is_small (nat_eq t 33) (shape 6 1 0 false) None (shape_is_small 6 1 0 false (omega arith) (omega arith) (omega arith)) tt)))))))

-- names have at most 255 bytes each
length-concat : (names : List (List ℕ)) → All IsName names → length (concat names) ≤ 255 * length names
length-concat [] are = omega arith
length-concat (name ∷ others) are =
    let is = All-head IsName name others are in
    omega (arith, length-append name (concat others), is.1, length-concat others (All-tail IsName name others are))

-- RDATA that fills a small shape is short
filled_is_short : (s : kind.Shape) (rdata : List ℕ) → IsSmall (Some s) → FillsShape s rdata → length rdata ≤ 65535
filled_is_short s rdata small fills =
    omega (
      arith,
      ap length fills.is_all,
      length-append (fills.before ++ concat fills.names) fills.after,
      length-append fills.before (concat fills.names),
      length-concat fills.names fills.are_names,
      fills.before_size,
      fills.names_count,
      fills.after_size,
      small.0,
      small.1,
      small.2,
    )

-- RDATA of at most 65,535 bytes is kept in at most as many
rdata_is_short : (o : Option kind.Shape) (p : List ℕ) (at end : ℕ) (rdata : List ℕ) → IsSmall o → KeepsShape o rdata → end ≤ at + 65535 → rdata_of_shape o p at end ≡ Ok rdata → length rdata ≤ 65535
unfolding rdata_of_shape
rdata_is_short None p at end rdata small keeps near h =
    let e = ap length (ok_same _ rdata h) in omega (arith, e, length-take (end - at) (drop at p))
rdata_is_short (Some s) p at end [] small keeps near h = omega arith
rdata_is_short (Some s) p at end (b ∷ bytes) small keeps near h = filled_is_short s (b ∷ bytes) small keeps

-- the same for the RDATA of a type
rdata_fits : (rtype : ℕ) (p : List ℕ) (at end : ℕ) (rdata : List ℕ) → KeepsShape (shape_of rtype) rdata → end ≤ at + 65535 → rdata_at rtype p at end ≡ Ok rdata → length rdata ≤ 65535
unfolding rdata_at
rdata_fits rtype p at end rdata keeps near h =
    elim (cases_Bool (nat_eq at end)) [
      | inl same ↦ (let e = ap length (ok_same _ rdata (rw same at h)) in omega (arith, e))
      | inr apart ↦ rdata_is_short (shape_of rtype) p at end rdata (shapes_are_small rtype) keeps near (rw apart at h)
    ]

-- no bytes are labels and the root
no_bytes_no_root : (inside : ℕ) → are_labels_and_root inside [] ≡ false
unfolding are_labels_and_root
no_bytes_no_root zero = refl
no_bytes_no_root (suc inside) = refl

-- a choice of two tests that do not hold
never_true : (b c : Bool) → c ≡ false → cond b false c ≡ true → ⊥
never_true true c e h = absurd (cc h)
never_true false c e h = absurd (cc (e, h))

-- a name of one byte is the root
pub one_byte_is_root : (name : List ℕ) → IsName name → nat_lt 1 (length name) ≡ false → name ≡ 0 ∷ []
unfolding are_labels_and_root
one_byte_is_root [] is one = absurd (cc is.0)
one_byte_is_root (n ∷ []) is one =
    elim (cases_Bool (nat_eq n 0)) [
      | inl root ↦ ap (λ k. k ∷ []) (eqb-true n 0 root)
      | inr label ↦ absurd (never_true (nat_lt 63 n) (are_labels_and_root n []) (no_bytes_no_root n) (rw label at is.0))
    ]
one_byte_is_root (n ∷ m ∷ bytes) is one = absurd (omega (arith, ltb-false 1 (length (n ∷ m ∷ bytes)) one))

-- a test that does not hold, of two
and_false : (a b : Bool) → (a && b) ≡ false → a ≡ true → b ≡ false
and_false true b h e = h
and_false false b h e = absurd (cc e)

-- a choice that is not true takes its first side
first_side : (b c : Bool) → cond b c true ≡ false → c ≡ false
first_side true c h = h
first_side false c h = absurd (cc h)

-- an OPT record that keeps its rule is the root's
opt_is_of_root : (allowed : Bool) (rtype : ℕ) (owner : List ℕ) → IsName owner → breaks_opt_rule allowed rtype owner ≡ false → rtype ≡ OPT → owner ≡ 0 ∷ []
opt_is_of_root allowed rtype owner is keeps e =
    one_byte_is_root owner is (first_side allowed (nat_lt 1 (length owner)) (and_false (nat_eq rtype OPT) _ keeps (eq-eqb rtype OPT e)))

-- how many OPT records may stand from a place on
abbrev opts_from : Bool → ℕ
opts_from true = 1
opts_from false = 0

-- how many OPT records a record is
abbrev pub opts_of : Rr → ℕ
opts_of r = cond (is_opt r) 1 0

-- an OPT record takes the leave for one
opts_fall : (is allowed owned : Bool) → (is && (if allowed then owned else true)) ≡ false → cond is 1 0 + opts_from (allowed && not is) ≤ opts_from allowed
opts_fall true true owned h = omega arith
opts_fall true false owned h = absurd (cc h)
opts_fall false true owned h = omega arith
opts_fall false false owned h = omega arith

-- a valid record, and the leave for an OPT record after it
record FitsPlace (allowed : Bool) (x : Rr × ℕ) : Type 0 where
  valid : ValidRecord x.0
  opts : opts_of x.0 + opts_from (opt_allowed_after allowed x.0) ≤ opts_from allowed

-- a record that is read after its owner fits its place
after_owner_fits : (p : List ℕ) (allowed : Bool) (owner : List ℕ) (at : ℕ) (x : Rr × ℕ) → AreBytes p → IsName owner →
    record_after_owner p allowed owner at ≡ Ok x → FitsPlace allowed x
unfolding record_after_owner
after_owner_fits p allowed owner at x bytes is h =
    let one = if_err_else (nat_lt (length p) (at + 10)) Short _ x h in
    let two = if_err_else (breaks_opt_rule allowed (be16 at p) owner) Opt _ x one.1 in
    let three = if_err_else (nat_lt (length p) (at + 10 + be16 (at + 8) p)) Short _ x two.1 in
    let four = bind_ok (rdata_at (be16 at p) p (at + 10) (at + 10 + be16 (at + 8) p)) _ x three.1 in
    let within : at + 10 + be16 (at + 8) p ≤ length p = ltb-false (length p) (at + 10 + be16 (at + 8) p) three.0 in
    let keeps = rdata_keeps_shape (be16 at p) p (at + 10) (at + 10 + be16 (at + 8) p) four.0 within (omega arith) four.1 in
    subst (λ v. FitsPlace allowed v) (ok_same _ x four.2) (record {
      valid = record {
        owner_is_name = is;
        rdata_fits = rdata_fits (be16 at p) p (at + 10) (at + 10 + be16 (at + 8) p) four.0 keeps (omega (arith, word_fits p (at + 8) bytes)) four.1;
        rdata_keeps_shape = keeps;
        opt_owner_is_root = opt_is_of_root allowed (be16 at p) owner is two.0;
      };
      opts = opts_fall (nat_eq (be16 at p) OPT) allowed (nat_lt 1 (length owner)) two.0;
    })

-- a record that is read fits its place
record_fits : (p : List ℕ) (allowed : Bool) (at : ℕ) (x : Rr × ℕ) → AreBytes p → record_at p allowed at ≡ Ok x → FitsPlace allowed x
unfolding record_at
record_fits p allowed at x bytes h =
    let one = bind_ok (name_in p at) _ x h in
    after_owner_fits p allowed one.0.0 one.0.1 x bytes (named p at one.0 one.1).0 one.2

-- so many valid records, with so many OPT records
record FitsSection (allowed : Bool) (count : ℕ) (records : List Rr) : Type 0 where
  each : All ValidRecord records
  size : length records ≡ count
  opts : count_by is_opt records ≤ opts_from allowed

-- records that are read fit their section
records_fit : (p : List ℕ) (count at : ℕ) (allowed : Bool) (x : List Rr × (ℕ × Bool)) → AreBytes p → repeat (record_step p) count (at, allowed) ≡ Ok x → FitsSection allowed count x.0
unfolding repeat
records_fit p zero at allowed x bytes h =
    let e : [] ≡ x.0 = ap (λ (v : List Rr × (ℕ × Bool)). v.0) (ok_same ([], (at, allowed)) x h) in
    subst (λ rs. FitsSection allowed 0 rs) e (record { each = All-nil ValidRecord; size = refl; opts = omega arith })
records_fit p (suc count) at allowed x bytes h =
    let step = bind_ok (record_step p (at, allowed)) _ x h in
    let one = bind_ok (record_at p allowed at) _ step.0 step.1 in
    let two = bind_ok (repeat (record_step p) count step.0.1) _ x step.2 in
    let is : (one.0.0, (one.0.1, opt_allowed_after allowed one.0.0)) ≡ step.0 = ok_same _ step.0 one.2 in
    let again : repeat (record_step p) count (one.0.1, opt_allowed_after allowed one.0.0) ≡ Ok two.0 =
    ap (λ (v : Rr × (ℕ × Bool)). repeat (record_step p) count v.1) is ∙ two.1 in
    let e : one.0.0 ∷ two.0.0 ≡ x.0 = ap (λ (v : Rr × (ℕ × Bool)). v.0 ∷ two.0.0) is ∙ ap (λ (v : List Rr × (ℕ × Bool)). v.0) (ok_same (step.0.0 ∷ two.0.0, two.0.1) x two.2) in
    let first = record_fits p allowed at one.0 bytes one.1 in
    let others = records_fit p count one.0.1 (opt_allowed_after allowed one.0.0) two.0 bytes again in
    subst (λ rs. FitsSection allowed (suc count) rs) e (record {
      each = All-cons ValidRecord one.0.0 two.0.0 first.valid others.each;
      size = ap suc others.size;
      opts = omega (arith, sum_by-cons opts_of one.0.0 two.0.0, first.opts, others.opts);
    })

-- a section that is read fits
section_fits : (p : List ℕ) (count : ℕ) (allowed : Bool) (at : ℕ) (x : List Rr × ℕ) → AreBytes p → records_at p count allowed at ≡ Ok x → FitsSection allowed count x.0
section_fits p count allowed at x bytes h =
    let one = bind_ok (repeat (record_step p) count (at, allowed)) _ x h in
    let e : one.0.0 ≡ x.0 = ap (λ (v : List Rr × ℕ). v.0) (ok_same (one.0.0, one.0.1.0) x one.2) in
    subst (λ rs. FitsSection allowed count rs) e (records_fit p count at allowed one.0 bytes one.1)

-- a section that fits is valid
section_is_valid : (allowed : Bool) (count : ℕ) (records : List Rr) → count ≤ 65535 → FitsSection allowed count records → ValidSection (opts_from allowed) records
section_is_valid allowed count records few fits = record { records_are_valid = fits.each; few_records = omega (arith, fits.size); few_opts = fits.opts }

-- so many questions, each with a name
record FitsQuestions (count : ℕ) (questions : List Question) : Type 0 where
  each : All (λ q. IsName q.name) questions
  size : length questions ≡ count

-- the name of a question that is read is a name
question_fits : (p : List ℕ) (at : ℕ) (x : Question × ℕ) → question_at p at ≡ Ok x → IsName x.0.name
unfolding question_at
question_fits p at x h =
    let one = bind_ok (name_in p at) _ x h in
    let two = if_err_else (nat_lt (length p) (one.0.1 + 4)) Short _ x one.2 in
    subst (λ (v : Question × ℕ). IsName v.0.name) (ok_same _ x two.1) (named p at one.0 one.1).0

-- questions that are read fit
questions_fit : (p : List ℕ) (count at : ℕ) (x : List Question × ℕ) → repeat (question_at p) count at ≡ Ok x → FitsQuestions count x.0
unfolding repeat
questions_fit p zero at x h =
    let e : [] ≡ x.0 = ap (λ (v : List Question × ℕ). v.0) (ok_same ([], at) x h) in
    subst (λ qs. FitsQuestions 0 qs) e (record { each = All-nil (λ q. IsName q.name); size = refl })
questions_fit p (suc count) at x h =
    let one = bind_ok (question_at p at) _ x h in
    let two = bind_ok (repeat (question_at p) count one.0.1) _ x one.2 in
    let e : one.0.0 ∷ two.0.0 ≡ x.0 = ap (λ (v : List Question × ℕ). v.0) (ok_same (one.0.0 ∷ two.0.0, two.0.1) x two.2) in
    let others = questions_fit p count one.0.1 two.0 two.1 in
    subst (λ qs. FitsQuestions (suc count) qs) e (record {
      each = All-cons (λ q. IsName q.name) one.0.0 two.0.0 (question_fits p at one.0 one.1) others.each;
      size = ap suc others.size;
    })

-- a reading that is the same as one of a valid message
same_is_valid : (a b : Message × ℕ) → a ≡ b → Valid a.0 → Valid b.0
same_is_valid a b same valid = subst (λ (v : Message × ℕ). Valid v.0) same valid

-- the law on messages that are read
pub messages_are_valid : MessagesAreValid
unfolding message_of
messages_are_valid p m used bytes h =
    let x : Message × ℕ = (m, used) in
    let start = if_err_else (nat_lt (length p) 12) Short _ x h in
    let q = bind_ok (repeat (question_at p) (be16 4 p) 12) _ x start.1 in
    let a = bind_ok (records_at p (be16 6 p) false q.0.1) _ x q.2 in
    let n = bind_ok (records_at p (be16 8 p) false a.0.1) _ x a.2 in
    let d = bind_ok (records_at p (be16 10 p) true n.0.1) _ x n.2 in
    let questions = questions_fit p (be16 4 p) 12 q.0 q.1 in
    let read : Message × ℕ =
    (record { id = be16 0 p; bits = be16 2 p; questions = q.0.0; answers = a.0.0; authority = n.0.0; additional = d.0.0 }, d.0.1) in
    same_is_valid read x (ok_same read x d.2) (record {
      names_are_names = questions.each;
      few_questions = omega (arith, questions.size, word_fits p 4 bytes);
      answers = section_is_valid false (be16 6 p) a.0.0 (word_fits p 6 bytes) (section_fits p (be16 6 p) false q.0.1 a.0 bytes a.1);
      authority = section_is_valid false (be16 8 p) n.0.0 (word_fits p 8 bytes) (section_fits p (be16 8 p) false a.0.1 n.0 bytes n.1);
      additional = section_is_valid true (be16 10 p) d.0.0 (word_fits p 10 bytes) (section_fits p (be16 10 p) true n.0.1 d.0 bytes d.1);
    })

-- the same, from what is known of a slice of bytes
pub parsed_is_valid : (p : List ℕ) (m : Message) (used : ℕ) → message_of p ≡ Ok (m, used) → ((i : ℕ) → Fits w8 (get_or p i 0)) → Valid m
parsed_is_valid p m used h fits = messages_are_valid p m used (λ i. omega (arith, fits i)) h

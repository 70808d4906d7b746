use Rattle.std.proofs.Common.{◌≡◌, ◌∙◌, ◌++◌, ◌-◌, Result, Ok, Err, OnOk, ap, length, take, arith, refl}
use Rattle.std.specs.Prelude.{IsOk}
use Rattle.std.proofs.lemmas.Bool.{false≢true}
use Rattle.std.proofs.lemmas.List.{length-take}
use Rattle.cd_packet.specs.Magic.{has_magic}
use Rattle.cd_capture.proofs.Telling.{section-joined}
use Rattle.cd_capture.proofs.beginning.begins_section.Goals as goal

-- what is said of an answer that is fine
ok_known : {A B : Type 0} (r : Result A B) (P : Type 0) → IsOk r → OnOk r P → P
ok_known (Ok a) P ok h = h
ok_known (Err e) P ok h = absurd (false≢true ok)

pub returns : goal.returns
returns c =
    let none = c.new-magic.ensures in
    let one : c.try_extend_from_slice.new.self.items ≡ c.args.first.now =
    ok_known c.try_extend_from_slice.result _ (c.try_extend_from_slice.ensures.variant.1 (omega (arith, ap length none, c.requires.few)))
    c.try_extend_from_slice.ensures.ok
    ∙ ap (λ t. t ++ c.args.first.now) none in
    let two : c.try_extend_from_slice-2.new.self.items ≡ c.args.first.now ++ take (4 - length c.args.first.now) c.args.piece.now =
    ok_known c.try_extend_from_slice-2.result _
    (c.try_extend_from_slice-2.ensures.variant.1 (omega (arith, ap length one, length-take (4 - length c.args.first.now) c.args.piece.now)))
    c.try_extend_from_slice-2.ensures.ok
    ∙ ap (λ t. t ++ take (4 - length c.args.first.now) c.args.piece.now) one in
    c.has_magic.ensures ∙ ap (λ t. has_magic 0x0a0d0d0a t) (c.deref.ensures.0 ∙ two)
    ∙ section-joined c.args.first.now c.args.piece.now (4 - length c.args.first.now) c.requires.few c.requires.many refl

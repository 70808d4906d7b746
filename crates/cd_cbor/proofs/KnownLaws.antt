-- The laws of spellings.
use Rattle.std.proofs.Common.{◌≡◌, ℕ, ◌+◌, ◌-◌, List, [], ◌∷◌, ◌++◌, length, take, drop, Ok, refl, ap, sym, subst, ◌∙◌, arith, length-append}
use Rattle.std.proofs.lemmas.List.{append-nil}
use Rattle.std.proofs.Math.Seq.{take-append_seam}
use Rattle.cd_cbor.specs.Laws.{SpelledIsRead, SpelledIsReadThere, ReadIsSpelled, ReadIsSpelledThere, NoSpellingGoesOn, OneItemIsSpelled, ReadingsStay, FittingIsSpelled, SpelledFits, WrittenIsSpelling}
use Rattle.cd_cbor.specs.Spells.{Cbor, Spells, most_depth}
use Rattle.cd_cbor.specs.Readings.{piece}
use Rattle.cd_cbor.specs.Reading.{cbor}
use Rattle.cd_cbor.specs.declared.fault.Why.TheVariants as why
use Rattle.cd_cbor.proofs.Binds.{ok_same}
use Rattle.cd_cbor.proofs.ItemsRead.{item_reads}
use Rattle.cd_cbor.proofs.Stands.{Stands}
use Rattle.cd_cbor.proofs.ItemsStand.{item_sound}
use Rattle.cd_cbor.proofs.Growing.{item_goes, item_within}
use Rattle.cd_cbor.proofs.Offsets.{piece_is}
use Rattle.cd_cbor.proofs.Written.{item_written}
use Rattle.cd_cbor.proofs.SpelledFit.{item_fits}

pub spelled_is_read : SpelledIsRead
unfolding Cbor
spelled_is_read item bytes more h =
    let sum : 0 + length bytes ≡ length bytes = omega arith in
    item_reads most_depth (bytes ++ more) why.Break 0 item bytes more refl h ∙ ap (λ n. Ok (item, n)) sum

pub read_is_spelled : ReadIsSpelled
unfolding Cbor
read_is_spelled bytes item size all h =
    let st : Stands (Spells most_depth) bytes 0 item size = item_sound most_depth bytes all why.Break 0 item size h in
    let within = item_within most_depth bytes all why.Break 0 item size h in
    let long : size ≡ length st.s = omega (arith, st.ends) in
    let front : take size bytes ≡ st.s = ap (λ n. take n bytes) long ∙ ap (take (length st.s)) st.is ∙ take-append_seam st.s (drop size bytes) in
    (within.1, subst (Spells most_depth item) (sym front) st.has)

none_left : (xs : List ℕ) → length xs ≡ 0 → xs ≡ []
none_left [] e = refl
none_left (x ∷ xs) e = absurd (omega arith)

pub no_spelling_goes_on : NoSpellingGoesOn
no_spelling_goes_on one another bytes more h k =
    let first : cbor (bytes ++ more) ≡ Ok (one, length bytes) = spelled_is_read one bytes more h in
    let second : cbor (bytes ++ more) ≡ Ok (another, length (bytes ++ more)) = ap cbor (sym (append-nil (bytes ++ more))) ∙ spelled_is_read another (bytes ++ more) [] k in
    let same : length bytes ≡ length (bytes ++ more) = ap (λ x. x.1) (ok_same (one, length bytes) (another, length (bytes ++ more)) (sym first ∙ second)) in
    none_left more (omega (arith, length-append bytes more))

pub one_item_is_spelled : OneItemIsSpelled
one_item_is_spelled one another bytes h k =
    ap (λ x. x.0) (ok_same (one, length bytes) (another, length bytes) (sym (spelled_is_read one bytes [] h) ∙ spelled_is_read another bytes [] k))

pub readings_stay : ReadingsStay
readings_stay depth bytes broken at all apart = record {
  stays = λ more never. (item_goes depth bytes more all broken apart at).stays never;
  ends = λ place h. (item_goes depth bytes [] all broken apart at).ends place h;
}

pub spelled_is_read_there : SpelledIsReadThere
spelled_is_read_there depth item bytes spelled more broken at is h = item_reads depth bytes broken at item spelled more is h

pub read_is_spelled_there : ReadIsSpelledThere
read_is_spelled_there depth bytes broken at item next all h =
    let st : Stands (Spells depth) bytes at item next = item_sound depth bytes all broken at item next h in
    let within = item_within depth bytes all broken at item next h in
    let size : next - at ≡ length st.s = omega (arith, st.ends) in
    let there : piece at (next - at) bytes ≡ st.s = ap (λ k. piece at k bytes) size ∙ piece_is at bytes st.s (drop next bytes) st.is in
    (within.0, within.1, subst (Spells depth item) (sym there) st.has)

pub fitting_is_spelled : FittingIsSpelled
fitting_is_spelled depth item fits = item_written depth item fits

pub spelled_fits : SpelledFits
spelled_fits depth item bytes few h = item_fits depth item bytes few h

pub written_is_spelling : WrittenIsSpelling
unfolding Cbor
written_is_spelling item bytes few h = item_written most_depth item (item_fits most_depth item bytes few h)

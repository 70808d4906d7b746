-- Lists of what each element gives, one element further.
use Rattle.std.proofs.Common.{◌≡◌, ℕ, ◌+◌, ◌<◌, ◌≤◌, List, [], ◌∷◌, ◌++◌, length, get_or, take, ap, ◌∙◌}
use Rattle.std.specs.Prelude.{Option, Some, None}
use Rattle.std.specs.List.{flat_map, filter_map, cons_option}
use Rattle.std.proofs.lemmas.List.{take_more, append-nil}
use Rattle.std.proofs.lemmas.List.Elements.{filter_map-append}
use Rattle.std.proofs.lemmas.List.Concat.{flat_map-append}
use Rattle.std.specs.Option.{option_map}
use Rattle.cd_rebuild.specs.Rebuilding.{packet_of}
use Rattle.cd_rebuild.specs.declared.rebuilt_block.Raw.{Raw}
use Rattle.cd_rebuild.specs.declared.sending.Sending.{Sending}

-- what the elements give up to one more
pub flat_map_next : {X A : Type 0} (f : X → List A) (xs : List X) (i : ℕ) (d : X) → i < length xs →
    flat_map f (take (i + 1) xs) ≡ flat_map f (take i xs) ++ f (get_or xs i d)
flat_map_next f xs i d within =
    ap (flat_map f) (take_more xs i d within) ∙ flat_map-append f (take i xs) (get_or xs i d ∷ [])
    ∙ ap (λ ys. flat_map f (take i xs) ++ ys) (append-nil (f (get_or xs i d)))

-- an element that gives nothing adds nothing
pub nothing_more : {X Y : Type 0} (h : X → Option Y) (xs : List X) (x : X) → h x ≡ None → filter_map h (xs ++ x ∷ []) ≡ filter_map h xs
nothing_more h xs x none =
    filter_map-append h xs (x ∷ []) ∙ ap (λ o. filter_map h xs ++ cons_option o []) none ∙ append-nil (filter_map h xs)

-- what is sent and has no packet gives none
pub no_packet : (s : Sending) → s.packet ≡ None → packet_of s ≡ None
no_packet s none =
    let raw : List ℕ → Raw = λ bytes. record { time = s.time; bytes = bytes } in ap (option_map raw) none

-- an element that gives something adds that
pub one_more : {X Y : Type 0} (h : X → Option Y) (xs : List X) (x : X) (y : Y) → h x ≡ Some y → filter_map h (xs ++ x ∷ []) ≡ filter_map h xs ++ y ∷ []
one_more h xs x y some = filter_map-append h xs (x ∷ []) ∙ ap (λ o. filter_map h xs ++ cons_option o []) some

-- what is sent and has a packet gives it
pub one_packet : (s : Sending) (bytes : List ℕ) → s.packet ≡ Some bytes → packet_of s ≡ Some (record { time = s.time; bytes = bytes })
one_packet s bytes some =
    let raw : List ℕ → Raw = λ bs. record { time = s.time; bytes = bs } in ap (option_map raw) some

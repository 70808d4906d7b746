-- What stands at the front of the bytes of a file stays as they go on, unless it is open, and lies within them.
use Rattle.std.proofs.Common.{◌≡◌, ℕ, ◌+◌, ◌-◌, ◌<◌, ◌≤◌, Bool, true, false, cond, List, [], ◌∷◌, ◌++◌, length, take, Result, Ok, Err, inl, inr, refl, ap, sym, ◌∙◌, arith, length-append, take_all, length-take}
use Rattle.std.specs.Prelude.{nat_lt, ◌&&◌, ok_or}
use Rattle.std.proofs.lemmas.Bool.{cases_lt, lt-ltb, le-ltb}
use Rattle.std.proofs.lemmas.List.{take-append-le}
use Rattle.std.proofs.Math.Seq.{take-append-add}
use Rattle.cd_cbor.specs.Readings.{Reading, refused, byte_at}
use Rattle.cd_cbor.specs.Reading.{item_at, content_at}
use Rattle.cd_cbor.specs.declared.item.Item.{Item}
use Rattle.cd_cbor.specs.declared.fault.Why.TheVariants as why
use Rattle.cd_cbor.specs.declared.fault.CborFault.{CborFault}
use Rattle.cd_cbor.specs.declared.fault.CborFault.TheVariants as fault
use Rattle.cd_cbor.proofs.Growing.{Goes}
use Rattle.cd_file.specs.declared.refusal.FileWhy.TheVariants.{NotCdns, ParamIndex, TooLarge}
use Rattle.cd_file.specs.ReadHead.{read_params}
use Rattle.cd_file.specs.ReadBlock.{read_block}
use Rattle.cd_file.specs.ItemHeads.{ItemHead, begun_item, chunk_head}
use Rattle.cd_file.specs.ReadFile.{FileEnd, Open, Refused, Front, ◌>>=◌, refusing, judged_or, judged, begins_with_break, element_head, most_item, item_front, outer_of, outer_front, title_of, title_head, is_title, title_front, chunk_front, is_map, preamble_front, count_of, count_front, block_front}
use Rattle.cd_file.proofs.ItemsWithin.{Lies, item_lies}
use Rattle.cd_file.proofs.ItemsGo.{item_goes}
use Rattle.cd_file.proofs.HeadsGo.{content_goes, content_lies, begun_goes, begun_lies, chunk_head_goes, chunk_head_lies}

-- what is read now is read later too, unless it is open
abbrev pub Stays : {A : Type 0} → Result A FileEnd → Result A FileEnd → Type 0
Stays {A} now later = (now ≡ Err Open → ⊥) → later ≡ now

-- what stands at the front has a byte at least, and lies within the bytes
abbrev pub Fills : {A : Type 0} → List ℕ → Front A → Type 0
Fills {A} bytes front = (x : A × ℕ) → front ≡ Ok x → (1 ≤ x.1) × (x.1 ≤ length bytes)

-- ends of two readings are equal alike
end_same : {A B : Type 0} (e f : FileEnd) → ◌≡◌ {A = Result A FileEnd} (Err e) (Err f) → ◌≡◌ {A = Result B FileEnd} (Err e) (Err f)
end_same {A} {B} e f h = let same : e ≡ f = cc in ap {B = Result B FileEnd} (λ x. Err x) same

stays_same : {A : Type 0} (x : Result A FileEnd) → Stays x x
stays_same x never = refl

stays_bind : {A B : Type 0} (now later : Result A FileEnd) (f g : A → Result B FileEnd) → Stays now later → ((x : A) → now ≡ Ok x → Stays (f x) (g x)) → Stays (now >>= f) (later >>= g)
stays_bind {A} {B} (Ok x) later f g first second never =
    let same : later ≡ Ok x = first (λ h. absurd cc) in rw same (second x refl never)
stays_bind {A} {B} (Err e) later f g first second never =
    let same : later ≡ Err e = first (λ h. never (end_same {A = A} {B = B} e Open h)) in rw same refl

stays_if : {A : Type 0} (b : Bool) (x y other rest : Result A FileEnd) → Stays x y → Stays other rest → Stays (cond b x other) (cond b y rest)
stays_if true x y other rest first second = first
stays_if false x y other rest first second = second

-- a judged reading
judged_or_stays : {A : Type 0} (at : ℕ) (e : FileEnd) (now later : Result A CborFault) → (((k : ℕ) → now ≡ refused k why.End → ⊥) → later ≡ now) → Stays (judged_or Open at now) (judged_or e at later)
judged_or_stays at e (Ok x) later same never = rw (same (λ k h. absurd cc)) refl
judged_or_stays at e (Err (fault.Bad place why.End)) later same never = absurd (never refl)
judged_or_stays at e (Err (fault.Bad place reason)) later same never = rw (same (λ k h. absurd cc)) refl
judged_or_stays at e (Err fault.NoMemory) later same never = absurd (never refl)

judged_stays : {A : Type 0} (bytes : List ℕ) (at : ℕ) (now later : Result A CborFault) → Goes bytes now later → Stays (judged at now) (judged at later)
judged_stays bytes at now later goes = judged_or_stays at Open now later goes.stays

-- a value of a judged reading is one of the reading
pub judged_or_ok : {A : Type 0} (at : ℕ) (e : FileEnd) (r : Result A CborFault) (x : A) → judged_or e at r ≡ Ok x → r ≡ Ok x
judged_or_ok at e (Ok y) x h = let same : y ≡ x = cc in ap Ok same
judged_or_ok at e (Err (fault.Bad place why.End)) x h = absurd cc
judged_or_ok at e (Err (fault.Bad place reason)) x h = absurd cc
judged_or_ok at e (Err fault.NoMemory) x h = absurd cc

fills_ok : {A : Type 0} (bytes : List ℕ) (y : A) (size : ℕ) → 1 ≤ size → size ≤ length bytes → Fills bytes (Ok (y, size))
fills_ok {A} bytes y size some inside x h =
    let same : (y, size) ≡ x = cc in
    let end : size ≡ x.1 = ap (λ (t : A × ℕ). t.1) same in (omega arith, omega arith)

fills_err : {A : Type 0} (bytes : List ℕ) (e : FileEnd) → Fills {A = A} bytes (Err e)
fills_err {A} bytes e x h = absurd cc

fills_bind : {A B : Type 0} (bytes : List ℕ) (r : Result A FileEnd) (f : A → Front B) → ((x : A) → r ≡ Ok x → Fills bytes (f x)) → Fills bytes (r >>= f)
fills_bind bytes (Ok x) f each = each x refl
fills_bind {A} {B} bytes (Err e) f each = fills_err {A = B} bytes e

fills_if : {A : Type 0} (bytes : List ℕ) (b : Bool) (r t : Front A) → Fills bytes r → Fills bytes t → Fills bytes (cond b r t)
fills_if bytes true r t first second = first
fills_if bytes false r t first second = second

judged_fills : {A : Type 0} (bytes : List ℕ) (at : ℕ) (r : Reading A) → Lies bytes 1 r → Fills bytes (judged at r)
judged_fills bytes at r lies x h = lies x (judged_or_ok at Open r x h)

-- where no byte is there, a head is open
no_byte : (at : ℕ) (later : Front ItemHead) → Stays (judged at (begun_item [])) later
unfolding begun_item byte_at
no_byte at later never = absurd (never refl)

-- the head of an element
element_stays : (is_open : Bool) (at : ℕ) (bytes more : List ℕ) → Stays (element_head is_open at bytes) (element_head is_open at (bytes ++ more))
unfolding element_head
element_stays false at bytes more = judged_stays bytes at _ _ (begun_goes bytes more)
element_stays true at (byte ∷ bytes) more =
    stays_if (begins_with_break (byte ∷ bytes)) _ _ _ _ (stays_same (Err (Refused NotCdns))) (judged_stays (byte ∷ bytes) at _ _ (begun_goes (byte ∷ bytes) more))
element_stays true at [] more = no_byte at (element_head true at ([] ++ more))

element_fills : (is_open : Bool) (at : ℕ) (bytes : List ℕ) → Fills bytes (element_head is_open at bytes)
unfolding element_head
element_fills is_open at bytes =
    fills_if bytes (is_open && begins_with_break bytes) _ _ (fills_err bytes (Refused NotCdns)) (judged_fills bytes at (begun_item bytes) (begun_lies bytes))

-- the heads of the outer array, of the title and of the array of blocks
pub outer_stays : (bytes more : List ℕ) → Stays (outer_front bytes) (outer_front (bytes ++ more))
unfolding outer_front
outer_stays bytes more =
    stays_bind _ _ _ _ (judged_stays bytes 0 _ _ (begun_goes bytes more)) (λ head e. stays_same _)

pub outer_fills : (bytes : List ℕ) → Fills bytes (outer_front bytes)
unfolding outer_front
outer_fills bytes =
    fills_bind bytes (judged 0 (begun_item bytes)) _
    (λ head e. let w = judged_fills bytes 0 (begun_item bytes) (begun_lies bytes) head e in
    fills_bind bytes (ok_or (outer_of head.0.kind head.0.argument) (Refused NotCdns)) _ (λ is_open f. fills_ok bytes is_open head.1 w.0 w.1))

pub title_head_stays : (is_open : Bool) (at : ℕ) (bytes more : List ℕ) → Stays (title_head is_open at bytes) (title_head is_open at (bytes ++ more))
unfolding title_head
title_head_stays is_open at bytes more = stays_bind _ _ _ _ (element_stays is_open at bytes more) (λ head e. stays_same _)

pub title_head_fills : (is_open : Bool) (at : ℕ) (bytes : List ℕ) → Fills bytes (title_head is_open at bytes)
unfolding title_head
title_head_fills is_open at bytes =
    fills_bind bytes (element_head is_open at bytes) _
    (λ head e. let w = element_fills is_open at bytes head e in
    fills_bind bytes (ok_or (title_of head.0.kind head.0.argument) (Refused NotCdns)) _ (λ is_chunked f. fills_ok bytes is_chunked head.1 w.0 w.1))

pub count_stays : (is_open : Bool) (at : ℕ) (bytes more : List ℕ) → Stays (count_front is_open at bytes) (count_front is_open at (bytes ++ more))
unfolding count_front
count_stays is_open at bytes more = stays_bind _ _ _ _ (element_stays is_open at bytes more) (λ head e. stays_same _)

pub count_fills : (is_open : Bool) (at : ℕ) (bytes : List ℕ) → Fills bytes (count_front is_open at bytes)
unfolding count_front
count_fills is_open at bytes =
    fills_bind bytes (element_head is_open at bytes) _
    (λ head e. let w = element_fills is_open at bytes head e in
    fills_bind bytes (ok_or (count_of head.0.kind head.0.argument) (Refused NotCdns)) _ (λ count f. fills_ok bytes count head.1 w.0 w.1))

-- the title, at once and in chunks
pub title_stays : (size at : ℕ) (bytes more : List ℕ) → Stays (title_front size at bytes) (title_front size at (bytes ++ more))
unfolding title_front
title_stays size at bytes more = stays_bind _ _ _ _ (judged_stays bytes at _ _ (content_goes bytes more true 0 5 size)) (λ content e. stays_same _)

pub title_fills : (size at : ℕ) (bytes : List ℕ) → Fills bytes (title_front size at bytes)
unfolding title_front
title_fills size at bytes =
    fills_bind bytes (judged at (content_at true 0 5 size bytes)) _
    (λ content e. let w = judged_fills bytes at (content_at true 0 5 size bytes) (content_lies bytes true 0 5 size 1 (omega arith)) content e in
    fills_if bytes (is_title content.0) _ _ (fills_ok bytes content.0 content.1 w.0 w.1) (fills_err bytes (Refused NotCdns)))

pub chunk_stays : (title : List ℕ) (at : ℕ) (bytes more : List ℕ) → Stays (chunk_front title at bytes) (chunk_front title at (bytes ++ more))
unfolding chunk_front
chunk_stays title at bytes more =
    stays_bind {A = ℕ × ℕ} _ _ _ _ (judged_stays bytes at _ _ (chunk_head_goes bytes more (length title)))
    (λ head e.
    let short : Result (ℕ × ℕ) FileEnd = cond (nat_lt 5 (length title + head.0)) (Err (Refused NotCdns)) (Ok head) in
    stays_bind {A = ℕ × ℕ} short short (λ size. judged at (content_at true 0 size.0 size.1 bytes) >>= (λ chunk. Ok (title ++ chunk.0, chunk.1)))
    (λ size. judged at (content_at true 0 size.0 size.1 (bytes ++ more)) >>= (λ chunk. Ok (title ++ chunk.0, chunk.1))) (stays_same short)
    (λ size f. stays_bind {A = List ℕ × ℕ} _ _ (λ chunk. Ok (title ++ chunk.0, chunk.1)) (λ chunk. Ok (title ++ chunk.0, chunk.1))
    (judged_stays bytes at _ _ (content_goes bytes more true 0 size.0 size.1)) (λ chunk g. stays_same _)))

short_same : (b : Bool) (e : FileEnd) (x y : ℕ × ℕ) → cond b (Err e) (Ok x) ≡ Ok y → x ≡ y
short_same true e x y h = absurd cc
short_same false e x y h = cc

pub chunk_fills : (title : List ℕ) (at : ℕ) (bytes : List ℕ) → Fills bytes (chunk_front title at bytes)
unfolding chunk_front
chunk_fills title at bytes =
    fills_bind bytes (judged at (chunk_head (length title) bytes)) _
    (λ head e. let w = judged_fills bytes at (chunk_head (length title) bytes) (chunk_head_lies bytes (length title)) head e in
    fills_bind bytes (cond (nat_lt 5 (length title + head.0)) (Err (Refused NotCdns)) (Ok head)) _
    (λ short f. let same : head ≡ short = short_same (nat_lt 5 (length title + head.0)) (Refused NotCdns) head short f in
    let far : head.1 ≡ short.1 = ap (λ (t : ℕ × ℕ). t.1) same in
    fills_bind bytes (judged at (content_at true 0 short.0 short.1 bytes)) _
    (λ chunk g. let v = judged_fills bytes at (content_at true 0 short.0 short.1 bytes) (content_lies bytes true 0 short.0 short.1 1 (omega (arith, w.0))) chunk g in
    fills_ok bytes (title ++ chunk.0) chunk.1 v.0 v.1)))

-- an item, of which at most so many bytes are judged
module _ (most depth at : ℕ) (bytes more : List ℕ) where
  abbrev unfinished : List ℕ → FileEnd
  unfinished held = cond (nat_lt most (length held)) (Refused TooLarge) Open

  abbrev judged_item : List ℕ → Front Item
  judged_item held = judged_or (unfinished held) at (item_at depth (take most held) why.Break 0)

  few_stay : length bytes < most → Stays (judged_item bytes) (judged_item (bytes ++ more))
  few_stay few =
      let all : take most bytes ≡ bytes = take_all most bytes (omega arith) in
      let room : length bytes + (most - length bytes) ≡ most = omega arith in
      let longer : take most (bytes ++ more) ≡ bytes ++ take (most - length bytes) more = ap (λ n. take n (bytes ++ more)) (sym room) ∙ take-append-add bytes more (most - length bytes) in
      rw (all, longer, le-ltb most (length bytes) (omega arith))
      (judged_or_stays at (unfinished (bytes ++ more)) _ _ (item_goes depth bytes (take (most - length bytes) more) why.Break (λ e. cc) 0).stays)

  many_stay : most ≤ length bytes → Stays (judged_item bytes) (judged_item (bytes ++ more))
  many_stay many =
      rw (take-append-le most bytes more many)
      (elim (cases_lt most (length bytes)) [
        | inl above ↦ rw (lt-ltb most (length bytes) above, lt-ltb most (length (bytes ++ more)) (omega (arith, length-append bytes more))) (λ never. refl)
        | inr same ↦ rw (le-ltb most (length bytes) same) (judged_or_stays at (unfinished (bytes ++ more)) _ _ (λ never. refl))
      ])

  judged_item_stays : Stays (judged_item bytes) (judged_item (bytes ++ more))
  judged_item_stays = elim (cases_lt (length bytes) most) [ inl few ↦ few_stay few | inr many ↦ many_stay many ]

  judged_item_fills : Fills bytes (judged_item bytes)
  judged_item_fills x h =
      let w = item_lies depth (take most bytes) why.Break 0 x (judged_or_ok at (unfinished bytes) _ x h) in
      (w.0, omega (arith, w.1, length-take most bytes))

item_stays : (depth at : ℕ) (bytes more : List ℕ) → Stays (item_front depth at bytes) (item_front depth at (bytes ++ more))
unfolding item_front
item_stays depth at bytes more = judged_item_stays most_item depth at bytes more

item_fills : (depth at : ℕ) (bytes : List ℕ) → Fills bytes (item_front depth at bytes)
unfolding item_front
item_fills depth at bytes = judged_item_fills most_item depth at bytes []

-- the preamble and a block
pub preamble_stays : (is_open : Bool) (at : ℕ) (bytes more : List ℕ) → Stays (preamble_front is_open at bytes) (preamble_front is_open at (bytes ++ more))
unfolding preamble_front
preamble_stays is_open at bytes more =
    stays_bind _ _ _ _ (element_stays is_open at bytes more)
    (λ head e. stays_bind _ _ _ _ (stays_if (is_map head.0.kind) _ _ _ _ (item_stays 15 at bytes more) (stays_same _)) (λ item f. stays_same _))

map_item : (b : Bool) (r : Front Item) (e : FileEnd) (x : Item × ℕ) → cond b r (Err e) ≡ Ok x → r ≡ Ok x
map_item true r e x h = h
map_item false r e x h = absurd cc

pub preamble_fills : (is_open : Bool) (at : ℕ) (bytes : List ℕ) → Fills bytes (preamble_front is_open at bytes)
unfolding preamble_front
preamble_fills is_open at bytes =
    fills_bind bytes (element_head is_open at bytes) _
    (λ head e. fills_bind bytes (cond (is_map head.0.kind) (item_front 15 at bytes) (Err (Refused NotCdns))) _
    (λ item f. let w = item_fills 15 at bytes item (map_item (is_map head.0.kind) (item_front 15 at bytes) (Refused NotCdns) item f) in
    fills_bind bytes (refusing (read_params item.0)) _ (λ entries g. fills_ok bytes entries item.1 w.0 w.1)))

pub block_stays : (entry_count at : ℕ) (bytes more : List ℕ) → Stays (block_front entry_count at bytes) (block_front entry_count at (bytes ++ more))
unfolding block_front
block_stays entry_count at bytes more = stays_bind _ _ _ _ (item_stays 14 at bytes more) (λ item e. stays_same _)

pub block_fills : (entry_count at : ℕ) (bytes : List ℕ) → Fills bytes (block_front entry_count at bytes)
unfolding block_front
block_fills entry_count at bytes =
    fills_bind bytes (item_front 14 at bytes) _
    (λ item e. let w = item_fills 14 at bytes item e in
    fills_bind bytes (refusing (read_block item.0)) _
    (λ block f. fills_if bytes (nat_lt block.params entry_count) _ _ (fills_ok bytes block item.1 w.0 w.1) (fills_err bytes (Refused ParamIndex))))

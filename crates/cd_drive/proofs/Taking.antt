-- One chunk that was taken.
use Rattle.std.proofs.Common.{◌≡◌, ℕ, ◌+◌, ◌-◌, ◌<◌, ◌≤◌, min, Bool, false, List, [], ◌++◌, length, take, Option}
use Rattle.std.proofs.Common.{Some, None, Result, Ok, ap, sym, ◌∙◌, arith, subst, length-append}
use Rattle.std.proofs.lemmas.List.{take_all, append-nil, length-take}
use Rattle.std.specs.Io.KnownBytes.{Consumes, Keeps}
use Rattle.cd_ports.proofs.Steps.{consumes_none}
use Rattle.cd_drive.specs.Behaviors.{Behavior, Histories}
use Rattle.cd_drive.specs.Steps.{TakesChunk, Says}
use Rattle.cd_drive.specs.declared.driving.Stop.{Stop}
use Rattle.cd_drive.specs.declared.driving.Stop.TheVariants as stop
use Rattle.cd_drive.proofs.Stops.{stopped_few, stopped_refused, stopped_long, front_grown}

-- a chunk was taken
abbrev pub Takes : {R C : Type 0} (E : Type 0) → Behavior R C → Histories → Histories → Bool → ℕ → ℕ →
    Option (List ℕ) → Option (List ℕ) → Option (Stop R) → Type 0
Takes E d so sn t room left a b said =
    let r : Result (Option (Stop _)) E = Ok said in
    (bytes : List ℕ) × Consumes a b bytes × TakesChunk d so sn t room left r bytes

-- the read failed
pub chunk_failed : {R C : Type 0} (E : Type 0) (d : Behavior R C) (so : Histories) (t : Bool) (room : ℕ)
    (a b : Option (List ℕ)) → 0 < room → t ≡ false → Keeps a b →
    Takes E d so so t room room a b (Some stop.ReadFault)
chunk_failed E d so t room a b some told kept = (
  [],
  consumes_none a b kept,
  record {
    small = omega arith;
    room = omega arith;
    more = λ e. absurd cc;
    judges = λ max taken cleared count stands none.
        let few : length taken ≤ max = omega arith in
        let whole : take max (taken ++ []) ≡ taken = ap (λ t. take max t) (append-nil taken) ∙ take_all max taken few in
        let P : List ℕ → Type 0 = λ t. so t cleared in
        (subst P (sym whole) stands, rw (append-nil taken, told) (sym (stopped_few d max taken false few none)));
  },
)

-- the machine was fed a chunk
pub record FedChunk {R C : Type 0} (d : Behavior R C) (so sn : Histories) (room n used : ℕ) (buf items : List ℕ)
    (said : Option R) : Type 0 where
  pub some : 0 < room
  pub few : n ≤ room
  pub fits : n ≤ length items
  pub size : length items ≡ 65536
  pub more : 0 < n
  pub least : used ≡ min n (room - 1)
  pub same : buf ≡ items
  pub history : (fed cleared : List ℕ) → so fed cleared → sn (fed ++ take used buf) cleared
  pub refusal : (fed cleared : List ℕ) → so fed cleared → said ≡ d.refusal (fed ++ take used buf)

-- it was fed what is wanted of the bytes taken, and said what they are refused for
fed_all : {R C : Type 0} (d : Behavior R C) (so sn : Histories) (room n used : ℕ) (buf items : List ℕ)
    (said : Option R) → FedChunk d so sn room n used buf items said →
    (max : ℕ) (taken cleared : List ℕ) → length taken + room ≡ max + 1 → so taken cleared →
    sn (take max (taken ++ take n items)) cleared × (d.refusal (take max (taken ++ take n items)) ≡ said)
fed_all d so sn room n used buf items said h max taken cleared count stands =
    let e : take max (taken ++ take n items) ≡ taken ++ take used buf =
    front_grown max room n used taken items count h.some h.least ∙ ap (λ t. taken ++ take used t) (sym h.same) in
    rw e (h.history taken cleared stands, sym (h.refusal taken cleared stands))

-- what was said of the chunk is what the bytes say
took_said : {R C : Type 0} (E : Type 0) (d : Behavior R C) (so sn : Histories) (t : Bool) (room n used : ℕ)
    (buf items : List ℕ) (said : Option R) (o : Option (Stop R)) (a b : Option (List ℕ)) →
    FedChunk d so sn room n used buf items said → Consumes a b (take n items) →
    ((max : ℕ) (taken : List ℕ) → length taken + room ≡ max + 1 → d.refusal (take max (taken ++ take n items)) ≡ said →
    Says d max (taken ++ take n items) t o) →
    Takes E d so sn t room (room - n) a b o
took_said E d so sn t room n used buf items said o a b h took says = (
  take n items,
  took,
  record {
    small = omega (arith, length-take n items, h.fits, h.size);
    room = omega (arith, length-take n items, h.fits, h.few);
    more = λ e. omega (arith, length-take n items, h.fits, h.more);
    judges = λ max taken cleared count stands none.
        let k = fed_all d so sn room n used buf items said h max taken cleared count stands in
        (k.0, says max taken count k.1);
  },
)

-- the bytes are refused
pub chunk_refused : {R C : Type 0} (E : Type 0) (d : Behavior R C) (so sn : Histories) (t : Bool) (room n used : ℕ)
    (buf items : List ℕ) (answer : R) (a b : Option (List ℕ)) →
    FedChunk d so sn room n used buf items (Some answer) → Consumes a b (take n items) →
    Takes E d so sn t room (room - n) a b (Some (stop.Refused answer))
chunk_refused E d so sn t room n used buf items answer a b h took =
    took_said E d so sn t room n used buf items (Some answer) (Some (stop.Refused answer)) a b h took
    (λ max taken count some. sym (stopped_refused d max (taken ++ take n items) t answer some))

-- one byte too many was taken
pub chunk_long : {R C : Type 0} (E : Type 0) (d : Behavior R C) (so sn : Histories) (t : Bool) (room n used : ℕ)
    (buf items : List ℕ) (a b : Option (List ℕ)) →
    room - n ≡ 0 → FedChunk d so sn room n used buf items None → Consumes a b (take n items) →
    Takes E d so sn t room (room - n) a b (Some stop.TooLong)
chunk_long E d so sn t room n used buf items a b full h took =
    took_said E d so sn t room n used buf items None (Some stop.TooLong) a b h took
    (λ max taken count none.
    let long : max < length (taken ++ take n items) =
    omega (arith, length-append taken (take n items), length-take n items, h.fits, h.few, full, count) in
    sym (stopped_long d max (taken ++ take n items) t long none))

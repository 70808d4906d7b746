-- What the calls of blocks leave of them, over the parts that they keep.
use Rattle.std.proofs.Common.{◌≡◌, ℕ, Bool, true, false, List, [], ◌∷◌, ◌++◌, ap, sym, ◌∙◌, subst}
use Rattle.cd_ident.specs.Events.{EventParts}
use Rattle.cd_ident.specs.Keys.{parts_of, view_of}
use Rattle.cd_ident.specs.declared.event.Event.{Event}
use Rattle.cd_window.specs.History.{StandsFor}
use Rattle.cd_window.specs.Seen.{Seen}
use Rattle.cd_window.specs.declared.released.Released.{Released}
use Rattle.cd_engine.specs.Behaving.{closed_part_of_events}
use Rattle.cd_engine.specs.Blocks.{BlocksSeen, IsDrained, BlocksStand, blocks_seen, FilesReady}
use Rattle.cd_engine.specs.Filing.{Filed}
use Rattle.cd_engine.proofs.BlocksSteps.{as_fresh, pushed_history, output_is, cleared_history, FilesAll, files_all}

-- blocks of these parts
abbrev pub blocks_with : Seen Event → Filed → Bool → BlocksSeen
blocks_with w f spent = record { window = w; filing = f; spent = spent }

-- what stands for blocks stands for their parts
parts_stand : (seen : BlocksSeen) (w : Seen Event) (f : Filed) (spent : Bool) → blocks_with w f spent ≡ seen →
    (events : List EventParts) (cleared : List ℕ) → BlocksStand seen events cleared → BlocksStand (blocks_seen w f) events cleared
parts_stand seen w f spent e events cleared B =
    as_fresh (blocks_with w f spent) events cleared (subst (λ (b : BlocksSeen). BlocksStand b events cleared) (sym e) B)

-- what is not spent is drained
pub drained_of : (seen : BlocksSeen) (w : Seen Event) (f : Filed) (spent : Bool) → blocks_with w f spent ≡ seen →
    (spent ≡ false → IsDrained w f) → seen.spent ≡ false → IsDrained w f
drained_of seen w f spent e D q = D (ap (λ (b : BlocksSeen). b.spent) e ∙ q)

pub output_told : (seen : BlocksSeen) (w : Seen Event) (f : Filed) (spent : Bool) (bytes : List ℕ) → blocks_with w f spent ≡ seen →
    IsDrained w f → bytes ≡ f.output → (events : List EventParts) (cleared : List ℕ) → BlocksStand seen events cleared →
    cleared ++ bytes ≡ closed_part_of_events seen.filing.settings events
output_told seen w f spent bytes e D same events cleared B =
    ap (λ (xs : List ℕ). cleared ++ xs) same ∙ output_is w f D events cleared (parts_stand seen w f spent e events cleared B)
    ∙ ap (λ (b : BlocksSeen). closed_part_of_events b.filing.settings events) e

pub cleared_told : (seen : BlocksSeen) (w : Seen Event) (f : Filed) (spent : Bool) (after : Filed) → blocks_with w f spent ≡ seen →
    IsDrained w f → seen.spent ≡ false → after ≡ record f { output = [] } →
    (events : List EventParts) (cleared : List ℕ) → BlocksStand seen events cleared →
    BlocksStand (blocks_with w after spent) events (closed_part_of_events seen.filing.settings events)
cleared_told seen w f spent after e D q same events cleared B =
    let C = cleared_history w f D events cleared (parts_stand seen w f spent e events cleared B) in
    let settings = ap (λ (b : BlocksSeen). closed_part_of_events b.filing.settings events) e in
    subst (λ (xs : List ℕ). BlocksStand (blocks_with w after spent) events xs) settings
    (subst (λ (x : Filed). BlocksStand (blocks_with w x spent) events (closed_part_of_events f.settings events)) (sym same)
    (subst (λ (x : Bool). BlocksStand (blocks_with w (record f { output = [] }) x) events (closed_part_of_events f.settings events)) (sym (ap (λ (b : BlocksSeen). b.spent) e ∙ q)) C))

pub pushed_told : (seen : BlocksSeen) (w : Seen Event) (f : Filed) (spent : Bool) (e : Event) (pushed new : Seen Event) (filed : Filed) → blocks_with w f spent ≡ seen →
    ((all : List Event) (popped : List (Released Event)) → StandsFor view_of w all popped → StandsFor view_of pushed (all ++ e ∷ []) popped) →
    FilesReady pushed f new filed → (events : List EventParts) (cleared : List ℕ) → BlocksStand seen events cleared →
    BlocksStand (blocks_seen new filed) (events ++ parts_of e ∷ []) cleared
pushed_told seen w f spent e pushed new filed same stands R events cleared B =
    R.filed.history (events ++ parts_of e ∷ []) cleared (pushed_history w f e pushed stands events cleared (parts_stand seen w f spent same events cleared B))

pub finished_told : (seen : BlocksSeen) (w : Seen Event) (f : Filed) (spent : Bool) (told new : Seen Event) (filed : Filed) → blocks_with w f spent ≡ seen →
    IsDrained w f → ((all : List Event) (popped : List (Released Event)) → StandsFor view_of w all popped → StandsFor view_of told all popped) →
    told ≡ record w { finished = true } → FilesReady told f new filed →
    (events : List EventParts) (cleared : List ℕ) → BlocksStand seen events cleared → FilesAll seen.filing.settings filed events cleared
finished_told seen w f spent told new filed same D stands e R events cleared B =
    subst (λ (b : BlocksSeen). FilesAll b.filing.settings filed events cleared) same
    (files_all w f told new filed D stands e R events cleared (parts_stand seen w f spent same events cleared B))

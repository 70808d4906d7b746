-- A message is valid in one way at most, so that validity may stand in a ghost field.
use Rattle.std.proofs.Common.{◌≡◌, ℕ, List, [], ◌∷◌, ◌++◌, length, Option, Some, None, refl, ap, sym, ◌∙◌}
use Rattle.std.specs.Coded.{Unit-prop}
use Rattle.std.specs.List.{All, concat}
use Rattle.std.proofs.Props.{props}
use Rattle.std.proofs.lemmas.Option.{same_Some}
use mathlib.Core.HLevel.{Σ_prop_path}
use Rattle.cd_name.specs.Names.{IsName}
use Rattle.cd_message.specs.declared.shape.Shape.{Shape}
use Rattle.cd_message.specs.declared.message.Message.{Message}
use Rattle.cd_message.specs.Written.{RdataParts, parts_of_shape}
use Rattle.cd_message.specs.Valid.{FillsShape, KeepsShape, Valid}
use Rattle.cd_message.proofs.RdataParts.{parts_fill_shapes}

-- what is known of parts that fill a shape
abbrev PartsFill : Shape → List ℕ → RdataParts → Type 0
PartsFill s rdata p = (length p.before ≡ s.before) × (length p.names ≡ s.names) × (length p.after ≡ s.after) × All IsName p.names
    × (rdata ≡ p.before ++ concat p.names ++ p.after)

-- the parts that fill a shape
abbrev parts_of : {s : Shape} {rdata : List ℕ} → FillsShape s rdata → RdataParts
parts_of f = record { before = f.before; names = f.names; after = f.after }

-- two ways to fill a shape have the same parts
same_parts : (s : Shape) (rdata : List ℕ) (f g : FillsShape s rdata) → parts_of f ≡ parts_of g
same_parts s rdata f g =
    let one : parts_of_shape s rdata ≡ Some (parts_of f) = (parts_fill_shapes s rdata (parts_of f)).1 (f, refl, refl, refl) in
    let other : parts_of_shape s rdata ≡ Some (parts_of g) = (parts_fill_shapes s rdata (parts_of g)).1 (g, refl, refl, refl) in
    same_Some (parts_of f) (parts_of g) (sym one ∙ other)

-- RDATA fills a shape in one way at most
FillsShape-prop : (s : Shape) (rdata : List ℕ) → IsProp (FillsShape s rdata)
FillsShape-prop s rdata f g =
    let filled : ((p : RdataParts) × PartsFill s rdata p) → FillsShape s rdata = λ x. record {
      before = x.0.before;
      names = x.0.names;
      after = x.0.after;
      before_size = x.1.0;
      names_count = x.1.1;
      after_size = x.1.2;
      are_names = x.1.3;
      is_all = x.1.4;
    } in
    let one : (p : RdataParts) × PartsFill s rdata p = (parts_of f, (f.before_size, f.names_count, f.after_size, f.are_names, f.is_all)) in
    let other : (p : RdataParts) × PartsFill s rdata p = (parts_of g, (g.before_size, g.names_count, g.after_size, g.are_names, g.is_all)) in
    ap filled (Σ_prop_path {B = PartsFill s rdata} (λ p. hlevel props) {u = one} {v = other} (same_parts s rdata f g))

-- RDATA keeps the shape of its type in one way at most
KeepsShape-prop : (o : Option Shape) (rdata : List ℕ) → IsProp (KeepsShape o rdata)
KeepsShape-prop None rdata = Unit-prop
KeepsShape-prop (Some s) [] = Unit-prop
KeepsShape-prop (Some s) (b ∷ bytes) = FillsShape-prop s (b ∷ bytes)

-- a message is valid in one way at most
pub Valid-prop : (m : Message) → IsProp (Valid m)
Valid-prop m = hlevel (props, KeepsShape-prop)

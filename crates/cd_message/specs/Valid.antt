-- Valid messages: their names are names, and their records keep the rules of their types.
use Rattle.std.specs.Prelude.{◌≡◌, ℕ, ◌≤◌, nat_eq, Bool, List, [], ◌∷◌, ◌++◌, length, Option, Some, None}
use Rattle.std.specs.List.{All, concat, count_by}
use Rattle.cd_name.specs.Names.{IsName}
use Rattle.cd_message.specs.declared.message.Rr.{Rr}
use Rattle.cd_message.specs.declared.message.Message.{Message}
use Rattle.cd_message.specs.declared.shape.Shape.{Shape}
use Rattle.cd_message.specs.declared.message.TheConstants.{OPT}
use Rattle.cd_message.specs.Shapes.{shape_of}

-- bytes, names without pointers and bytes, as many of each as a shape says, and no more
pub record FillsShape (s : Shape) (rdata : List ℕ) : Type 0 where
  pub before : List ℕ
  pub names : List (List ℕ)
  pub after : List ℕ
  pub before_size : length before ≡ s.before
  pub names_count : length names ≡ s.names
  pub after_size : length after ≡ s.after
  pub are_names : All IsName names
  pub is_all : rdata ≡ before ++ concat names ++ after

-- RDATA of a type with no shape is any bytes; else it is empty or fills the shape
abbrev pub KeepsShape : Option Shape → List ℕ → Type 0
KeepsShape None rdata = Unit {0}
KeepsShape (Some s) [] = Unit {0}
KeepsShape (Some s) (b ∷ bytes) = FillsShape s (b ∷ bytes)

-- the record is an OPT record
abbrev pub is_opt : Rr → Bool
is_opt r = nat_eq r.rtype OPT

-- a record that may stand in some section
pub record ValidRecord (r : Rr) : Type 0 where
  pub owner_is_name : IsName r.owner
  pub rdata_fits : length r.rdata ≤ 65535
  pub rdata_keeps_shape : KeepsShape (shape_of r.rtype) r.rdata
  pub opt_owner_is_root : r.rtype ≡ OPT → r.owner ≡ 0 ∷ []

-- records of a section that may hold so many OPT records
pub record ValidSection (opts : ℕ) (records : List Rr) : Type 0 where
  pub records_are_valid : All ValidRecord records
  pub few_records : length records ≤ 65535
  pub few_opts : count_by is_opt records ≤ opts

-- a message with at most 65,535 entries in each section, and at most one OPT record, an additional one (RFC 6891 6.1.1)
pub record Valid (message : Message) : Type 0 where
  pub names_are_names : All (λ q. IsName q.name) message.questions
  pub few_questions : length message.questions ≤ 65535
  pub answers : ValidSection 0 message.answers
  pub authority : ValidSection 0 message.authority
  pub additional : ValidSection 1 message.additional

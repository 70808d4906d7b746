-- The rules of messages one by one, as relations, from left to right (RFC 1035 section 4, RFC 6891 section 6).
use Rattle.std.specs.Prelude.{◌≡◌, ◌≢◌, ◌↔◌, ℕ, zero, suc, ◌+◌, ◌-◌, ◌<◌, ◌≤◌, List, [], ◌∷◌, ◌++◌, length, take, true, false, Some, None, Result, Ok, Err, ◌⊎◌}
use Rattle.std.specs.List.{All, concat, count_by}
use Rattle.cd_name.specs.Names.{NameAt, NameBroken, run_is_cut}
use Rattle.cd_name.specs.declared.fault.NameWhy.{NameWhy}
use Rattle.cd_message.specs.declared.message.MsgWhy.{MsgWhy}
use Rattle.cd_message.specs.declared.message.MsgWhy.TheVariants.{Short, Shape, Opt}
use Rattle.cd_message.specs.declared.message.Question.{Question}
use Rattle.cd_message.specs.declared.message.Rr.{Rr}
use Rattle.cd_message.specs.declared.message.Message.{Message}
use Rattle.cd_message.specs.declared.message.TheConstants.{OPT}
use Rattle.cd_message.specs.declared.shape.Shape as kind
use Rattle.cd_bytes.specs.Numbers.{be16, be32}
use Rattle.cd_message.specs.Messages.{Spells, Breaks, bytes_at, why_of, rdata_why_of}
use Rattle.cd_message.specs.Shapes.{shape_of}
use Rattle.cd_message.specs.Valid.{is_opt}

-- So many items stand one after the other from an offset on, and end before the last offset.
pub data ReadsEach {A : Type 0} (Reads : ℕ → A → ℕ → Type 0) : ℕ → ℕ → List A → ℕ → Type 0 where
  none : (at : ℕ) → ReadsEach Reads zero at [] at
  one_more : (count at next end : ℕ) (item : A) (items : List A) → Reads at item next → ReadsEach Reads count next items end →
      ReadsEach Reads (suc count) at (item ∷ items) end

-- Of so many items from an offset on, some are read, and the one after them breaks a rule first.
pub record BreaksAmong {A : Type 0} (Reads : ℕ → A → ℕ → Type 0) (Broken : List A → ℕ → Type 0) (count at : ℕ) : Type 0 where
  pub before : List A
  pub here : ℕ
  pub one_is_left : length before < count
  pub are_read : ReadsEach Reads (length before) at before here
  pub is_broken : Broken before here

-- A question stands at an offset and ends before the next one: a name, a type and a class (RFC 1035 4.1.2).
pub record ReadsQuestion (p : List ℕ) (at : ℕ) (q : Question) (next : ℕ) : Type 0 where
  pub name_end : ℕ
  pub is_named : NameAt p at q.name name_end
  pub is_type : q.rtype ≡ be16 name_end p
  pub is_class : q.rclass ≡ be16 (name_end + 2) p
  pub ends : next ≡ name_end + 4
  pub is_there : next ≤ length p

-- a question at an offset breaks a rule
pub data BreaksQuestion (p : List ℕ) (at : ℕ) (why : MsgWhy) : Type 0 where
  -- its name breaks a rule of names
  question_name : (broken : NameWhy) → NameBroken p at broken → why ≡ why_of broken → BreaksQuestion p at why
  -- bytes of its type or class are missing
  question_fields : (name : List ℕ) (next : ℕ) → NameAt p at name next → length p < next + 4 → why ≡ Short → BreaksQuestion p at why

-- A name of RDATA stands at an offset: its own bytes end within the RDATA, and its pointers may lead anywhere before.
abbrev pub RdataNameAt : List ℕ → ℕ → ℕ → List ℕ → ℕ → Type 0
RdataNameAt p end at name next = NameAt p at name next × (next ≤ end)

-- a name of RDATA that ends at an offset breaks a rule
pub data BreaksRdataName (p : List ℕ) (end at : ℕ) (why : MsgWhy) : Type 0 where
  -- its first run goes on after the RDATA: its labels before the end are too long, or it does not fill the RDATA
  past_end : (broken : NameWhy) → run_is_cut (take end p) at ≡ true → NameBroken (take end p) at broken → why ≡ rdata_why_of broken → BreaksRdataName p end at why
  -- its first run ends within the RDATA, and it breaks a rule of names
  within_end : (broken : NameWhy) → run_is_cut (take end p) at ≡ false → NameBroken p at broken → why ≡ why_of broken → BreaksRdataName p end at why

-- The RDATA of a type stands between two offsets (RFC 1035 3.3): it may be empty; without a shape it is any bytes;
-- else it is filled by bytes, names and bytes, and its names are kept without pointers.
pub data ReadsRdata (p : List ℕ) (rtype at end : ℕ) (rdata : List ℕ) : Type 0 where
  empty : at ≡ end → rdata ≡ [] → ReadsRdata p rtype at end rdata
  any_bytes : at ≢ end → shape_of rtype ≡ None → rdata ≡ bytes_at p at (end - at) → ReadsRdata p rtype at end rdata
  shaped : (s : kind.Shape) (names : List (List ℕ)) (next : ℕ) → at ≢ end → shape_of rtype ≡ Some s → at + s.before ≤ end →
      ReadsEach (RdataNameAt p end) s.names (at + s.before) names next → next + s.after ≡ end →
      rdata ≡ bytes_at p at s.before ++ concat names ++ bytes_at p next s.after → ReadsRdata p rtype at end rdata

-- the RDATA of a type between two offsets breaks a rule
pub data BreaksRdata (p : List ℕ) (rtype at end : ℕ) (why : MsgWhy) : Type 0 where
  -- it ends before its names begin
  before_names : (s : kind.Shape) → at ≢ end → shape_of rtype ≡ Some s → end < at + s.before → why ≡ Shape → BreaksRdata p rtype at end why
  -- one of its names breaks a rule
  among_names : (s : kind.Shape) → at ≢ end → shape_of rtype ≡ Some s → at + s.before ≤ end →
      BreaksAmong (RdataNameAt p end) (λ before here. BreaksRdataName p end here why) s.names (at + s.before) → BreaksRdata p rtype at end why
  -- after its names it has too few bytes or too many
  after_names : (s : kind.Shape) (names : List (List ℕ)) (next : ℕ) → at ≢ end → shape_of rtype ≡ Some s → at + s.before ≤ end →
      ReadsEach (RdataNameAt p end) s.names (at + s.before) names next → next + s.after ≢ end → why ≡ Shape → BreaksRdata p rtype at end why

-- A record stands at an offset and ends before the next one: owner, type, class, TTL, RDLENGTH, RDATA (RFC 1035 4.1.3).
pub record ReadsRecord (p : List ℕ) (at : ℕ) (r : Rr) (next : ℕ) : Type 0 where
  pub owner_end : ℕ
  pub is_owned : NameAt p at r.owner owner_end
  pub is_type : r.rtype ≡ be16 owner_end p
  pub is_class : r.rclass ≡ be16 (owner_end + 2) p
  pub is_ttl : r.ttl ≡ be32 (owner_end + 4) p
  pub ends : next ≡ owner_end + 10 + be16 (owner_end + 8) p
  pub is_there : next ≤ length p
  pub has_rdata : ReadsRdata p r.rtype (owner_end + 10) next r.rdata

-- The OPT rule of a section that may hold so many (RFC 6891 6.1.1, 6.1.2): no more stand in it, and each is the root's.
pub record KeepsOptRule (opts : ℕ) (records : List Rr) : Type 0 where
  pub few : count_by is_opt records ≤ opts
  pub of_root : All (λ r. r.rtype ≡ OPT → r.owner ≡ 0 ∷ []) records

-- Records of a section stand one after the other, and the rule of OPT records is kept.
pub record ReadsSection (p : List ℕ) (opts count at : ℕ) (records : List Rr) (end : ℕ) : Type 0 where
  pub are_read : ReadsEach (ReadsRecord p) count at records end
  pub opt_rule : KeepsOptRule opts records

-- after some records of its section, a record of this type and owner breaks the rule of OPT records
abbrev pub BreaksOptRule : ℕ → List Rr → ℕ → List ℕ → Type 0
BreaksOptRule opts before rtype owner = (rtype ≡ OPT) × ((opts ≤ count_by is_opt before) ⊎ (owner ≢ 0 ∷ []))

-- a record after some records of its section breaks a rule
pub data BreaksRecord (p : List ℕ) (opts : ℕ) (why : MsgWhy) (before : List Rr) (at : ℕ) : Type 0 where
  -- its owner breaks a rule of names
  record_owner : (broken : NameWhy) → NameBroken p at broken → why ≡ why_of broken → BreaksRecord p opts why before at
  -- bytes between its owner and its RDATA are missing
  record_fields : (owner : List ℕ) (next : ℕ) → NameAt p at owner next → length p < next + 10 → why ≡ Short → BreaksRecord p opts why before at
  -- it breaks the rule of OPT records
  record_opt : (owner : List ℕ) (next : ℕ) → NameAt p at owner next → next + 10 ≤ length p → BreaksOptRule opts before (be16 next p) owner → why ≡ Opt →
      BreaksRecord p opts why before at
  -- bytes of its RDATA are missing
  rdata_bytes : (owner : List ℕ) (next : ℕ) → NameAt p at owner next → next + 10 ≤ length p → (BreaksOptRule opts before (be16 next p) owner → ⊥) →
      length p < next + 10 + be16 (next + 8) p → why ≡ Short → BreaksRecord p opts why before at
  -- its RDATA breaks a rule
  record_rdata : (owner : List ℕ) (next : ℕ) → NameAt p at owner next → (BreaksOptRule opts before (be16 next p) owner → ⊥) →
      next + 10 + be16 (next + 8) p ≤ length p → BreaksRdata p (be16 next p) (next + 10) (next + 10 + be16 (next + 8) p) why → BreaksRecord p opts why before at

-- of the records of a section, the one after some that are read and keep the rule of OPT records breaks a rule first
abbrev pub BreaksSection : List ℕ → ℕ → ℕ → ℕ → MsgWhy → Type 0
BreaksSection p opts count at why = BreaksAmong (ReadsRecord p) (λ before here. KeepsOptRule opts before × BreaksRecord p opts why before here) count at

-- A payload spells a message in so many bytes: a header of twelve bytes, questions, answers, authority and additional
-- records (RFC 1035 4.1). An OPT record stands in the additional section alone, once at most (RFC 6891 6.1.1).
pub record ReadsMessage (p : List ℕ) (m : Message) (used : ℕ) : Type 0 where
  pub questions_end : ℕ
  pub answers_end : ℕ
  pub authority_end : ℕ
  pub header : 12 ≤ length p
  pub is_id : m.id ≡ be16 0 p
  pub are_bits : m.bits ≡ be16 2 p
  pub has_questions : ReadsEach (ReadsQuestion p) (be16 4 p) 12 m.questions questions_end
  pub has_answers : ReadsSection p 0 (be16 6 p) questions_end m.answers answers_end
  pub has_authority : ReadsSection p 0 (be16 8 p) answers_end m.authority authority_end
  pub has_additional : ReadsSection p 1 (be16 10 p) authority_end m.additional used

-- a payload breaks a rule of messages first
pub data BreaksMessage (p : List ℕ) (why : MsgWhy) : Type 0 where
  -- bytes of its header are missing
  in_header : length p < 12 → why ≡ Short → BreaksMessage p why
  -- a question breaks a rule
  in_questions : 12 ≤ length p → BreaksAmong (ReadsQuestion p) (λ before here. BreaksQuestion p here why) (be16 4 p) 12 → BreaksMessage p why
  -- after the questions an answer breaks a rule
  in_answers : (qs : List Question) (at : ℕ) → 12 ≤ length p → ReadsEach (ReadsQuestion p) (be16 4 p) 12 qs at → BreaksSection p 0 (be16 6 p) at why → BreaksMessage p why
  -- after the answers a record of the authority section breaks a rule
  in_authority : (qs : List Question) (answers : List Rr) (next at : ℕ) → 12 ≤ length p → ReadsEach (ReadsQuestion p) (be16 4 p) 12 qs next →
      ReadsSection p 0 (be16 6 p) next answers at → BreaksSection p 0 (be16 8 p) at why → BreaksMessage p why
  -- after the authority section an additional record breaks a rule
  in_additional : (qs : List Question) (answers authority : List Rr) (first second at : ℕ) → 12 ≤ length p → ReadsEach (ReadsQuestion p) (be16 4 p) 12 qs first →
      ReadsSection p 0 (be16 6 p) first answers second → ReadsSection p 0 (be16 8 p) second authority at → BreaksSection p 1 (be16 10 p) at why → BreaksMessage p why

-- a payload spells a message in so many bytes exactly if the rules say so
abbrev pub SpelledByRules : Type 0
SpelledByRules = (p : List ℕ) (m : Message) (used : ℕ) → Spells p m used ↔ ReadsMessage p m used

-- a rule is the first that a payload breaks exactly if the rules say so
abbrev pub BrokenByRules : Type 0
BrokenByRules = (p : List ℕ) (why : MsgWhy) → Breaks p why ↔ BreaksMessage p why

-- the rules give for a payload a message and the number of its bytes, or the first rule that is broken
abbrev pub RulesGive : List ℕ → Result (Message × ℕ) MsgWhy → Type 0
RulesGive p (Ok x) = ReadsMessage p x.0 x.1
RulesGive p (Err why) = BreaksMessage p why

-- for each payload the rules give exactly one of these
abbrev pub RulesGiveOne : Type 0
RulesGiveOne = (p : List ℕ) → (answer : Result (Message × ℕ) MsgWhy) × RulesGive p answer × ((other : Result (Message × ℕ) MsgWhy) → RulesGive p other → other ≡ answer)

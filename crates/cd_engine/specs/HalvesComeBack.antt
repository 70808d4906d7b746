-- The plain halves of the records of a capture come back from its file (RFC 8618 7.3.2.4).
use Rattle.std.specs.Prelude.{◌≡◌, ℕ, List, filter, Some}
use Rattle.std.specs.List.{AllByRecursion, AllZip}
use Rattle.cd_block.specs.declared.kept.KeptItem.{KeptItem}
use Rattle.cd_block.specs.declared.kept.KeptSig.{KeptSig}
use Rattle.cd_block.specs.declared.params.Params.{Params}
use Rattle.cd_halves.specs.PlainHalves.{KeepsAll, IsPlainQuery, IsPlainResponse, IsWrittenAs}
use Rattle.cd_hints.specs.Records.{RecordParts, is_item, query_message, response_message}
use Rattle.cd_hints.specs.declared.settings.Settings.{Settings}
use Rattle.cd_message.specs.MessageLaws.{AreBytes}
use Rattle.cd_message.specs.declared.message.Message.{Message}
use Rattle.cd_rebuild.specs.Messages.{query_of, response_of}
use Rattle.cd_record.specs.Blocks.{kept_block}
use Rattle.cd_engine.specs.Compactions.{IsFileOf}

-- what is rebuilt is this message, and where it is written, its payload is read as this message, to the last byte
pub record ComesBack (made m : Message) : Type 0 where
  pub same : made ≡ m
  pub written : IsWrittenAs made m

-- each plain half of a record comes back from a kept item
pub record HalvesComeBack (p : Params) (r : RecordParts) (item : KeptItem) : Type 0 where
  pub signature : KeptSig
  pub signed : item.signature ≡ Some signature
  pub query : (m : Message) → query_message r ≡ Some m → IsPlainQuery p.rr_types m →
      ComesBack (query_of item signature) m
  pub response : (m : Message) → response_message r ≡ Some m → IsPlainResponse p.rr_types r m →
      ComesBack (response_of item signature) m

-- The pairs, queries and responses of a run and the kept items of its block are as many, and place by place each plain
-- half of the record comes back from the item.
abbrev pub RunComesBack : Params → List RecordParts → Type 0
RunComesBack p run = AllZip (HalvesComeBack p) (filter is_item run) (kept_block p run).items

-- Where every supported hint is set, the plain halves of each run come back from the file of a capture of bytes.
abbrev pub PlainHalvesComeBack : Settings → Type 0
PlainHalvesComeBack s = (bytes file : List ℕ) → KeepsAll s.params → AreBytes bytes → (is : IsFileOf s bytes file) →
    AllByRecursion (RunComesBack s.params) is.compaction.runs

-- it is so under each settings
abbrev pub EachPlainHalfComesBack : Type 0
EachPlainHalfComesBack = (s : Settings) → PlainHalvesComeBack s

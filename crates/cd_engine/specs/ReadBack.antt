-- The file of a capture is read back.
use Rattle.std.specs.Prelude.{◌≡◌, ℕ, ◌<◌, List, length, map}
use Rattle.std.specs.List.{AllByRecursion}
use Rattle.cd_block.specs.declared.params.Params.{Params}
use Rattle.cd_file.specs.ReadFile.{Whole, Open, read_file}
use Rattle.cd_file.specs.KeptFile.{kept_file}
use Rattle.cd_file.specs.ReadBack.{holding, keeping}
use Rattle.cd_hints.specs.Validity.{IsValid}
use Rattle.cd_hints.specs.declared.settings.Settings.{Settings}
use Rattle.cd_message.specs.MessageLaws.{AreBytes}
use Rattle.cd_record.specs.Blocks.{kept_block}
use Rattle.cd_engine.specs.Compactions.{blocks_of, IsFileOf, but_last, IsClosedPartOf}

-- the ranges of block parameters that their types keep
pub record ParamsInRange (p : Params) : Type 0 where
  pub opcodes : p.opcodes < 0x1_0000
  pub rr_types : AllByRecursion (λ rtype. rtype < 0x1_0000) p.rr_types
  pub four_prefixes : length p.prefixes ≡ 4

-- The file of a capture of bytes, under valid settings, is read as the block parameters of the settings and the blocks of
-- the runs, and ends whole.
abbrev pub FilesAreReadBack : Type 0
FilesAreReadBack = (s : Settings) (bytes file : List ℕ) → IsValid s → ParamsInRange s.params → AreBytes bytes →
    (is : IsFileOf s bytes file) →
    read_file file ≡ holding s.params (blocks_of s.params is.compaction.runs) Whole

-- Its closed part is read as the blocks of the runs that are closed, and is open.
abbrev pub ClosedPartsAreReadBack : Type 0
ClosedPartsAreReadBack = (s : Settings) (bytes front : List ℕ) → IsValid s → ParamsInRange s.params → AreBytes bytes →
    (is : IsClosedPartOf s bytes front) →
    read_file front ≡ holding s.params (blocks_of s.params (but_last is.released.runs)) Open

-- With each value in its place, the file is read as the kept blocks of the runs, in their order, and ends whole.
abbrev pub FilesAreKept : Type 0
FilesAreKept = (s : Settings) (bytes file : List ℕ) → IsValid s → ParamsInRange s.params → AreBytes bytes →
    (is : IsFileOf s bytes file) →
    kept_file file ≡ keeping s.params (map (kept_block s.params) is.compaction.runs) Whole

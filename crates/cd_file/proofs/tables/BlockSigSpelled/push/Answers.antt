use Rattle.cd_file.proofs.tables.BlockSigSpelled.push.Goals as goal

pub returns : goal.returns
returns c =
    rw (c.word.ensures, c.byte.ensures, c.byte-2.ensures, c.byte-3.ensures, c.word-2.ensures, c.word-3.ensures, c.word-4.ensures, c.word-5.ensures, c.word-6.ensures, c.word-7.ensures, c.byte-4.ensures, c.word-8.ensures, c.word-9.ensures)
    at c.push_map.ensures

-- A kept block is what its own block resolves to.
use Rattle.std.proofs.Common.{◌≡◌, List, map, Ok, refl}
use Rattle.std.specs.List.{flat_map}
use Rattle.cd_block.specs.declared.kept.KeptBlock.{KeptBlock}
use Rattle.cd_block.specs.declared.block.Block.{Block}
use Rattle.cd_block.specs.Traversal.{Visited, visited, visited_item, visited_malformed}
use Rattle.cd_block.specs.Tables.{KeptTables, tables_of, indexed_in, indexed, indexed_item, indexed_malformed}
use Rattle.cd_block.specs.Resolving.{each, resolved, resolved_item, resolved_malformed}
use Rattle.cd_block.specs.Naming.{ItemNamed, BlockNamed}
use Rattle.cd_block.proofs.Among.{all_among, among_first, among_second, among_each}
use Rattle.cd_block.proofs.IndexingTables.{HasTables, each_resolves}
use Rattle.cd_block.proofs.IndexingLists.{item_resolves, malformed_resolves}

-- a block has the tables with which it was indexed
pub indexed_has_tables : (values : List Visited) (kept : KeptBlock) → HasTables values (indexed_in (tables_of values) kept)
unfolding indexed_in
indexed_has_tables values kept = record {
  addresses = refl;
  classtypes = refl;
  byte_strings = refl;
  signatures = refl;
  question_lists = refl;
  questions = refl;
  record_lists = refl;
  records = refl;
  malformed_data = refl;
}

-- a kept block each of whose names is a name is what its own block resolves to
pub indexed_resolves : (kept : KeptBlock) → BlockNamed kept → resolved (indexed kept) ≡ Ok kept
unfolding resolved indexed_in visited
indexed_resolves kept named =
    let values : List Visited = visited kept in
    let t : KeptTables = tables_of values in
    let b : Block = indexed kept in
    let has = indexed_has_tables values kept in
    let first : List Visited = flat_map visited_item kept.items in
    let second : List Visited = flat_map visited_malformed kept.malformed in
    let items : each (resolved_item b) (map (indexed_item t) kept.items) ≡ Ok kept.items =
    each_resolves (resolved_item b) (indexed_item t) kept.items
    (λ i m. item_resolves values b has i (all_among ItemNamed kept.items i named m) (λ v n. among_first v first second (among_each visited_item kept.items i v m n))) in
    let malformed : each (resolved_malformed b) (map (indexed_malformed t) kept.malformed) ≡ Ok kept.malformed =
    each_resolves (resolved_malformed b) (indexed_malformed t) kept.malformed
    (λ x m. malformed_resolves values b has x (λ v n. among_second v first second (among_each visited_malformed kept.malformed x v m n))) in
    rw (items, malformed) refl

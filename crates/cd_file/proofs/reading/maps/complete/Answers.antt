-- The least key that is missing is found by the keys that a map must have.
use Rattle.std.proofs.Common.{◌≡◌, Some, None, not, find, refl, ap, sym, ◌∙◌}
use Rattle.std.specs.Prelude.{pos}
use Rattle.cd_file.specs.MapReading as maps
use Rattle.cd_file.specs.Meeting.{is_kept}
use Rattle.cd_file.proofs.Courses.{missing_found}
use Rattle.cd_file.proofs.reading.maps.complete.Goals as goal

pub returns-in-None : goal.returns-in-None
returns-in-None g c = λ keys fields keeps.
    let is : maps.first_missing g.T.Table.table keys ≡ None =
    missing_found c.args.met.now keys keeps g.T.Table.table ∙ ap (λ ks. find (λ key. not (is_kept c.args.met.now (pos key))) ks) (sym c.required_keys.ensures) ∙ sym c.first_missing.ensures
    ∙ c.in-None.is in
    rw is (refl, refl)

pub returns-in-Some : goal.returns-in-Some
returns-in-Some g c = λ keys fields keeps.
    let is : maps.first_missing g.T.Table.table keys ≡ Some c.in-Some.key =
    missing_found c.args.met.now keys keeps g.T.Table.table ∙ ap (λ ks. find (λ key. not (is_kept c.args.met.now (pos key))) ks) (sym c.required_keys.ensures) ∙ sym c.first_missing.ensures
    ∙ c.in-Some.is in
    rw (c.missing.ensures, is) refl

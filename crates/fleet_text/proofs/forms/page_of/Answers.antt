-- `forms::page_of` meets its contract: the page of the boats laid out flat. Assumes nothing.
use Rattle.std.proofs.Common.{◌≡◌, ◌*◌, length, take, rules, arith, ◌∙◌}
use Rattle.std.proofs.lemmas.List.{length-map}
use Rattle.boats.specs.declared.Boat.{Boat}
use Rattle.boats.specs.Fleet.{in_full, fleet_of_numbers}
use Rattle.fleet_text.proofs.Flat.{flat_page}
use Rattle.fleet_text.proofs.forms.page_of.Goals as goal

pub returns-in-Numbers : goal.returns-in-Numbers
returns-in-Numbers c =
    let a = c.args in
    let e : in_full c.last_of.result ≡ fleet_of_numbers a.engine (take (8 * length a.boats.now) c.flat-numbers.result) = search rules in
    e ∙ flat_page a.engine _ _ _ (omega (arith, length-map a.boats.now (λ (b : Boat). b.numbers))) c.flat-numbers.ensures

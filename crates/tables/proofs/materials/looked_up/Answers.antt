-- The line found is the first with the key.
use Rattle.std.proofs.Common.{rules, tests, ◌≡◌, sym, ap, ◌∙◌, ◌==◌, option_map, find}
use Rattle.std.proofs.lemmas.Iterator.{YieldsList-from_slice}
use Rattle.std.proofs.lemmas.Iterator.Search.{find_from_yields_List}
use Rattle.tables.proofs.Lookup.{lookup_finds}
use Rattle.tables.proofs.materials.looked_up.Goals as goal

pub returns : goal.returns
returns c =
    let found : option_map (λ r. r.now) c.find.result ≡ find (λ l. l.key == c.args.key) c.args.table.now =
    find_from_yields_List (λ l. l.key == c.args.key) _ _ c.find.result c.find.ensures.ran (YieldsList-from_slice c.args.table.now cc) (λ x b q k. search (rules, tests)) in
    let mapped : c.map.result ≡ option_map (λ l. l.value) (option_map (λ r. r.now) c.find.result) = search rules in
    record { gives_the_first_line = mapped ∙ ap (option_map (λ l. l.value)) found ∙ sym (lookup_finds c.args.table.now c.args.key) }

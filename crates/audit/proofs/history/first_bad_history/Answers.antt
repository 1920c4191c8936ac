use Rattle.std.proofs.Common.{◌∙◌, None, sym}
use Rattle.rows.specs.Cells.{history_cells}
use Rattle.rows.specs.TypedRows.{lists_of}
use Rattle.audit.specs.declared.damage.DamageKind.TheVariants as kind
use Rattle.audit.specs.Told.{machine_told}
use Rattle.audit.proofs.DerivedRows.{own_keys}
use Rattle.audit.proofs.Stages.{first_of_told, same_difference}
use Rattle.audit.proofs.ToldRows.{good_times, none_refused, nowhere, told_history, history_apart, told_to_clock}
use Rattle.audit.proofs.history.first_bad_history.Goals as goal

pub returns-then-is_met : goal.returns-then-is_met
returns-then-is_met c =
    let r = c.requires.met in
    let rows = lists_of c.args.rows.now in
    let m = machine_told r.0 in
    let once = history_apart m (own_keys c.known_laws.ensures.keys m r.3) in
    let same = c.if-is_met.ensures m rows once (told_to_clock rows r.0 c.args.meeting.now r.4) in
    first_of_told c.known_laws.ensures.reading c.args.version rows r.0 kind.History None r.1 (nowhere _ _ same)

pub history_told-requires : goal.history_told-requires
history_told-requires c =
    let r = c.requires.met in
    let rows = lists_of c.args.rows.now in
    (r.0, r.1, r.2, good_times c.args.version rows r.0 c.requires.clear r.1, none_refused c.args.version rows r.0 c.requires.clear r.1)

pub history_rows-requires : goal.history_rows-requires
history_rows-requires c =
    let r = c.requires.met in
    let list = c.in_ok-list.ensures r.0 r.1 r.2 (good_times c.args.version (lists_of c.args.rows.now) r.0 c.requires.clear r.1) in
    (machine_told r.0, r.3, list ∙ sym (told_history r.0))

pub returns : goal.returns
returns c =
    let r = c.requires.met in
    let rows = lists_of c.args.rows.now in
    let place = c.first_difference.result in
    let list = c.in_ok-list.ensures r.0 r.1 r.2 (good_times c.args.version rows r.0 c.requires.clear r.1) in
    let wanted = c.deref-2.ensures.value ∙ c.in_ok-wanted.ensures.all (machine_told r.0) r.3 (list ∙ sym (told_history r.0)) in
    first_of_told c.known_laws.ensures.reading c.args.version rows r.0 kind.History place r.1
    (same_difference history_cells _ _ _ _ place c.deref.ensures.value wanted c.first_difference.ensures)

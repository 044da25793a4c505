-- `summary::report_on` meets its contract. Assumes nothing.
use native.Mathlib.Omega.{arith}
use Rattle.volumes.proofs.Words.{within}
use Rattle.summary.proofs.Ends.{ended_from, ended_refused}
use Rattle.summary.proofs.Reports.{whole_records, marked, sorted, map_beyond, misfit_refusal_lem, past_twelve, report_ended}
use borrow.Author.Rules.{rules}
use Rattle.summary.proofs.report_on.Goals as goal

pub make_map-entries-requires : goal.make_map-entries-requires
make_map-entries-requires c =
    let p = c.requires in
    let r = p.past10.room in
    (whole_records p, r.least, r.few, r.long_pebs, r.long_map)

pub first_misfit-requires : goal.first_misfit-requires
first_misfit-requires c =
    let o = c.make_map-entries.ensures c.args.g c.args.image.now (marked c.requires) in
    sorted c.requires o (search rules) (search rules)

pub peb_word-peb-requires : goal.peb_word-peb-requires
peb_word-peb-requires c =
    let o = c.make_map-entries.ensures c.args.g c.args.image.now (marked c.requires) in
    let s = sorted c.requires o (search rules) (search rules) in
    omega (arith, (within s).0, c.in-Some.ensures.1)

pub returns-in-Some : goal.returns-in-Some
returns-in-Some c =
    let o = c.make_map-entries.ensures c.args.g c.args.image.now (marked c.requires) in
    ended_from _ c.requires.past10.room.least (map_beyond c.requires o (search rules) (search rules))
    (ended_refused _
    (misfit_refusal_lem c.requires o (search rules) (search rules) c.in-Some.k c.in-Some.ensures.0
    c.peb_word-peb.ensures)
    c.refuse.ensures)

pub report_mapped-requires : goal.report_mapped-requires
report_mapped-requires c =
    let o = c.make_map-entries.ensures c.args.g c.args.image.now (marked c.requires) in
    past_twelve c.requires o (search rules) (search rules) c.in_default.ensures.0

pub returns : goal.returns
returns c =
    let o = c.make_map-entries.ensures c.args.g c.args.image.now (marked c.requires) in
    report_ended c.requires o (search rules) (search rules) c.in_default.ensures.0
    c.report_mapped.ensures.answer c.report_mapped.ensures.states (search rules)

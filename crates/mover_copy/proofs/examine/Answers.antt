-- `mover_copy::examine` meets its contract. Assumes nothing.
use borrow.Author.Rules.{rules}
use Rattle.mover_copy.proofs.Data.{Read, static_found, empty_found, dynamic_found}
use Rattle.mover_copy.proofs.examine.Goals as goal

pub returns-then-h-eq-STATIC : goal.returns-then-h-eq-STATIC
returns-then-h-eq-STATIC c =
    let read : Read c.args.g
    c.args.p.now
    c.args.h c.new_size-size.result
    c.both_crcs-crcs.result.old c.both_crcs-crcs.result.new
    c.is_damaged-damaged.result = search rules in
    static_found read c.if-h-eq-STATIC.true

pub returns-then-size-eq0 : goal.returns-then-size-eq0
returns-then-size-eq0 c =
    let read : Read c.args.g
    c.args.p.now
    c.args.h c.new_size-size.result
    c.both_crcs-crcs.result.old c.both_crcs-crcs.result.new
    c.is_damaged-damaged.result = search rules in
    empty_found read c.if-h-eq-STATIC.false c.if-size-eq0.true

pub returns : goal.returns
returns c =
    let read : Read c.args.g
    c.args.p.now
    c.args.h c.new_size-size.result
    c.both_crcs-crcs.result.old c.both_crcs-crcs.result.new
    c.is_damaged-damaged.result = search rules in
    dynamic_found read c.if-h-eq-STATIC.false c.if-size-eq0.false

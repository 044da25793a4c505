-- `record_write::write_record` meets its contract. Assumes nothing.
use borrow.Author.Tests.{lt-leb, le-leb}
use Rattle.volume_record.specs.Record.{record_out}
use Rattle.record_write.proofs.Written.{stored_is}
use Rattle.record_write.proofs.write_record.Goals as goal

pub returns-then-out-lt-RECORD_SIZE : goal.returns-then-out-lt-RECORD_SIZE
unfolding record_out
returns-then-out-lt-RECORD_SIZE c =
    record { answer = rw (lt-leb _ _ c.if-out-lt-RECORD_SIZE.true); out = rw (lt-leb _ _ c.if-out-lt-RECORD_SIZE.true) }

pub returns : goal.returns
returns c =
    let a = c.args in
    let l = c.if-out-lt-RECORD_SIZE.false in
    record {
      answer = rw (le-leb _ _ l);
      out = stored_is a.v c.store_name.ensures.1 a.out.now l c.fill.ensures c.store_sizes.ensures
          c.store_kind.ensures
          c.store_name.ensures.0 c.store_crc.ensures;
    }

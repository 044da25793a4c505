-- `volume_record::record::read_record` meets its contract. Assumes nothing.
use Rattle.volume_record.proofs.Records.{read_short, read_empty, read_good, read_bad}
use Rattle.volume_record.proofs.record.read_record.Goals as goal

pub returns-then-bytes-lt-RECORD_SIZE : goal.returns-then-bytes-lt-RECORD_SIZE
returns-then-bytes-lt-RECORD_SIZE c =
    let a = c.args in
    let q = read_short a.leb_size a.unit a.bytes.now c.if-bytes-lt-RECORD_SIZE.true c.parse.ensures in record { kind = q.0; «record» = q.1 }

pub returns-then-is_empty : goal.returns-then-is_empty
returns-then-is_empty c =
    let a = c.args in
    let q = read_empty a.leb_size a.unit a.bytes.now c.if-bytes-lt-RECORD_SIZE.false c.parse-record.ensures
    c.is_empty.ensures c.if-is_empty.true in record { kind = q.0; «record» = q.1 }

pub returns-then-is_good : goal.returns-then-is_good
returns-then-is_good c =
    let a = c.args in
    let q = read_good a.leb_size a.unit a.bytes.now c.if-bytes-lt-RECORD_SIZE.false c.parse-record.ensures
    c.is_empty.ensures
    c.if-is_empty.false c.is_good.ensures c.if-is_good.true in record { kind = q.0; «record» = q.1 }

pub returns : goal.returns
returns c =
    let a = c.args in
    let q = read_bad a.leb_size a.unit a.bytes.now c.if-bytes-lt-RECORD_SIZE.false c.parse-record.ensures
    c.is_empty.ensures
    c.if-is_empty.false c.is_good.ensures c.if-is_good.false in record { kind = q.0; «record» = q.1 }

-- What is lent looked at, the lists looked at, then the close; a line for each way out.
use mathlib.Core.Path.{◌∙◌}
use Rattle.refusal.proofs.Same.{passed_on}
use Rattle.cabinet.proofs.Standing.{station_stopped, station_ready, station_unlisted, station_room, station_refused, station_closed}
use Rattle.cabinet.proofs.stations.close_station.Goals as goal

pub returns-in_err-table : goal.returns-in_err-table
returns-in_err-table c =
    let a = c.args in
    let e = station_stopped a.table.now a.common.now a.r a.releases.now a.entries.now c.in_err-table.ensures in
    record { answer = rw e (passed_on _ _ c.from_residual.ensures.1); common_after = rw e }

pub returns-in_err-record : goal.returns-in_err-record
returns-in_err-record c =
    let a = c.args in
    let e = station_unlisted a.table.now a.common.now a.r a.releases.now a.entries.now c.in_ok-table.ensures c.in_err-record.ensures in
    record { answer = rw e (passed_on _ _ c.from_residual-in_err-record.ensures.1); common_after = rw e }

pub close_round-requires : goal.close_round-requires
close_round-requires c =
    let a = c.args in
    station_ready a.table.now a.common.now a.r a.releases.now a.entries.now c.in_ok-table.ensures

pub returns-in_err-closed : goal.returns-in_err-closed
returns-in_err-closed c =
    let a = c.args in
    let p = station_refused a.table.now a.common.now a.r a.releases.now a.entries.now c.in_ok-table.ensures c.in_ok-record.ensures c.in_err-closed.ensures in
    record { answer = passed_on _ _ c.from_residual-in_err-closed.ensures.1 ∙ p.0; common_after = p.1 }

pub put_common-requires : goal.put_common-requires
put_common-requires c =
    let a = c.args in
    station_room a.table.now a.common.now a.r a.releases.now a.entries.now c.in_ok-table.ensures

pub returns : goal.returns
returns c =
    let a = c.args in
    let p = station_closed a.table.now a.common.now a.r a.releases.now a.entries.now c.in_ok-table.ensures c.in_ok-record.ensures c.in_ok-closed.ensures c.put_common.ensures in
    record { answer = p.0; common_after = p.1 }

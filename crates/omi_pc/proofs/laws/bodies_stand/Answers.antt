use Rattle.omi_pc.proofs.Arrived.{arrived_open}
use Rattle.omi_pc.proofs.Grouped.{grouped_open}
use Rattle.omi_pc.proofs.Moved.{body_opens, closed_open}
use Rattle.omi_pc.proofs.laws.bodies_stand.Goals as goal

pub returns-clause-opened : goal.returns-clause-opened
returns-clause-opened c = body_opens

pub returns-clause-closed : goal.returns-clause-closed
returns-clause-closed c = closed_open

pub returns-clause-arrived : goal.returns-clause-arrived
returns-clause-arrived c = λ p context n fs implicit few. arrived_open p context n implicit few fs

pub returns-clause-grouped : goal.returns-clause-grouped
returns-clause-grouped c = λ p context n fs few. grouped_open p context n few fs

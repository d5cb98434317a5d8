use Rattle.omi_pc.proofs.Unmoved.{returned_differs, settled_differs, worked_differs, working_differs}
use Rattle.omi_pc.proofs.laws.moves_change_bodies.Goals as goal

pub returns : goal.returns
returns c = λ p a. (settled_differs p a, returned_differs p a, worked_differs p a, working_differs p a)

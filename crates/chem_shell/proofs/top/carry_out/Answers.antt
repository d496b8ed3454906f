use Rattle.chem_shell.proofs.top.carry_out.Goals as goal

pub returns-in-Init : goal.returns-in-Init
returns-in-Init g c = c.init.ensures c.args.plan.now c.in-Init.is

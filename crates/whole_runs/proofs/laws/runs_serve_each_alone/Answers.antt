use Rattle.whole_runs.proofs.laws.runs_serve_each_alone.Goals as goal

pub returns : goal.returns
returns c first began last steps answers events run digest =
    c.each_tenant_sees_itself.ensures began last events run.course digest

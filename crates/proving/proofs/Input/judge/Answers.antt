-- `proving::Input::judge` meets its contract: what the settings leave, the records decide, and then the runs.
use Rattle.std.proofs.Common.{sym, arith}
use Rattle.std.proofs.lemmas.Grind.{common_steps}
use Rattle.proving.proofs.Facts.{settings, few_runs, fields_fit}
use Rattle.proving.specs.Judging.{input_fault}
use Rattle.proving.proofs.Input.judge.Goals as goal

pub returns-in_err-judge_settings-clause-fault : goal.returns-in_err-judge_settings-clause-fault
unfolding input_fault
returns-in_err-judge_settings-clause-fault c = grind (arith, common_steps)

pub judge_records-requires : goal.judge_records-requires
judge_records-requires c = omega (arith, c.count_runs-count.ensures, few_runs _ _ _ _ _ (sym c.in_ok-judge_settings.ensures))

pub returns-in_err-judge_records-clause-fault : goal.returns-in_err-judge_records-clause-fault
unfolding input_fault
returns-in_err-judge_records-clause-fault c = grind (arith, common_steps)

pub work_out_runs-requires : goal.work_out_runs-requires
work_out_runs-requires c = let clear = sym c.in_ok-judge_settings.ensures in
    let h = settings _ _ _ _ _ clear in
    (h.prover_fits, h.k_fits, omega (arith, c.count_runs-count.ensures, few_runs _ _ _ _ _ clear), fields_fit _ _ _ (sym c.in_ok-judge_records.ensures))

pub returns-clause-fault : goal.returns-clause-fault
unfolding input_fault
returns-clause-fault c = grind (arith, common_steps)

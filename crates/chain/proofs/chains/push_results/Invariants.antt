use Rattle.std.proofs.Common.{◌≡◌, ◌+◌, ◌++◌, take, vec_len, vec_capacity}
use Rattle.records.specs.Step.{with_timestamps}
use Rattle.chain.specs.Chains.{chain_from, results_from}
use Rattle.chain.proofs.chains.push_results.Given as goal

abbrev pub invariant-loop-place : goal.invariant-loop-place
invariant-loop-place g l = record {
  items : l.results.items ≡ l.fn.results.items
      ++ with_timestamps l.first
      (take l.place
      (results_from g.E.BatchEvent.rules (chain_from l.chain.is_open l.chain.judged.now)
      l.refusal));
  len : vec_len l.results ≡ vec_len l.fn.results + l.place;
  capacity : vec_capacity l.results ≡ vec_capacity l.fn.results;
}

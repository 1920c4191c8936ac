use Rattle.std.proofs.Common.{rules, arith, ◌<◌, length}
use Rattle.chain.specs.Chains.{chain_from, results_from}
use Rattle.chain.proofs.ResultTimestamps.{with_timestamps_more, length-results_from}
use Rattle.chain.proofs.chains.push_results.Goals as goal

pub loop-place-preserved : goal.loop-place-preserved
loop-place-preserved g c =
    let results =
    results_from g.E.BatchEvent.rules
    (chain_from c.args.chain.now.is_open c.args.chain.now.judged.now) c.args.refusal in
    let size = length-results_from g.E.BatchEvent.rules c.args.chain.now.is_open
    c.args.chain.now.judged.now c.args.refusal c.requires.within in
    let within : c.loop-place.place < length results = omega (arith, size) in
    record {
      items = with_timestamps_more c.args.results.now.items c.loop-place.results.items
          c.push_reserved.new.self.items results
          c.args.first c.loop-place.place c.result_at-result.result c.loop-place.invariant.items
          c.push_reserved.ensures.items within c.result_at-result.ensures;
      len = search rules;
      capacity = search rules;
    }

use Rattle.openings.proofs.SoundLemmas.{Known, no_damage}
use Rattle.openings.proofs.laws.sound_has_no_damage.Goals as goal

pub returns : goal.returns
returns c =
    let known : Known = record {
      fit = c.rows_fit.ensures;
      order = c.columns_keep_order.ensures.order;
      balances = c.read_in_order.ensures.ascending;
      statuses = c.read_in_order-2.ensures.ascending;
      history = c.read_in_order-3.ensures.ascending;
      failed = c.read_in_order-4.ensures.ascending;
    } in
    no_damage known c.sound_rows_pass.ensures

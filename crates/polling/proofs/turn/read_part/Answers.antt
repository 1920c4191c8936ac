use Rattle.std.proofs.Common.{◌≡◌, ◌∙◌, inl, inr, false, None, refl, sym}
use Rattle.service.specs.Seen.{Whole}
use Rattle.polling.specs.Standing.{Cut_short}
use Rattle.polling.proofs.OneLemmas.{continues, goes, renewed}
use Rattle.polling.proofs.ThenLemmas.{then_one}
use Rattle.polling.proofs.turn.read_part.Goals as goal

pub returns-in_default : goal.returns-in_default
returns-in_default g c moments =
    then_one (renewed c.reads.ensures.renewed)
    (goes
    (λ standing. Cut_short c.requires.written
    (λ (none : c.args.client.now.rest ≡ None). let no = sym c.requires.left ∙ none in cc) refl))
    (λ none. inr refl) refl

pub returns : goal.returns
returns g c moments =
    then_one
    (then_one {idle_all = false} (renewed c.reads.ensures.renewed)
    (continues c.put_part.ensures
    (record {
      rest = c.args.rest.now;
      written = c.requires.written;
      left = c.requires.left;
      told = c.in-Some.ensures.told;
    }))
    (λ none. inr refl) refl)
    (c.write_all.ensures.serves (Whole c.reads.new.ledgers) moments) (λ none. inl refl) refl

use Rattle.std.proofs.Common.{◌<◌, ◌∙◌, length, sym, arith}
use Rattle.style_tokens.proofs.CssTakes.{gap_takes, token_takes}
use Rattle.style_tokens.proofs.CssShorter.{gap_shorter, front_shorter}
use Rattle.style_tokens.proofs.CssScan.{some_left, none_left, past_gap, past_token, all_read, stuck_at}
use Rattle.style_tokens.proofs.css.tokens_of.Goals as goal

pub scanning-smaller-in-Some : goal.scanning-smaller-in-Some
scanning-smaller-in-Some c = gap_shorter c.scanning.rest.now c.in-Some.after.now (gap_takes _ _ (sym c.in-Some.ensures))

pub scanning-preserved-in-Some : goal.scanning-preserved-in-Some
scanning-preserved-in-Some c = past_gap _ _ _ _ _ c.scanning.invariant (sym c.in-Some.ensures)

pub returns-in_default-token_at : goal.returns-in_default-token_at
returns-in_default-token_at c =
    stuck_at _ _ _ _ c.scanning.invariant (some_left _ (sym c.is_empty.ensures ∙ c.scanning-test.true)) (sym c.in_default.ensures) (sym c.in_default-token_at.ensures)

shorter : (c : goal.In-Some-token_at) → length c.in-Some-token_at.front.rest.now < length c.scanning.rest.now
shorter c = front_shorter c.in-Some-token_at.front.kind c.scanning.rest.now c.in-Some-token_at.front.rest.now (token_takes _ _ (sym c.in-Some-token_at.ensures))

pub overflow_cast-to : goal.overflow_cast-to
overflow_cast-to c = let less = shorter c in let inside = c.scanning.invariant.shorter in let fits = c.ranges.end.fits in omega arith

pub overflow_sub-to : goal.overflow_sub-to
overflow_sub-to c = let less = shorter c in let inside = c.scanning.invariant.shorter in omega arith

pub scanning-smaller : goal.scanning-smaller
scanning-smaller c = front_shorter c.in-Some-token_at.front.kind c.scanning.rest.now c.in-Some-token_at.front.rest.now (token_takes _ _ (sym c.in-Some-token_at.ensures))

pub scanning-preserved : goal.scanning-preserved
scanning-preserved c = past_token _ _ c.scanning.rest.now _ c.in-Some-token_at.front.kind _ _ c.scanning.invariant (sym c.in-Some-token_at.ensures) c.in_ok-push.ensures

pub returns : goal.returns
returns c = all_read _ _ c.scanning.rest.now _ c.scanning.invariant (none_left _ (sym c.is_empty.ensures ∙ c.scanning-test.false))

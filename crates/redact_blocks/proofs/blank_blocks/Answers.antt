use Prim.Native.Nat.{◌+◌, ◌≤◌}
use mathlib.Core.Path.{◌∙◌, refl, sym}
use native.Mathlib.Omega.{arith}
use lib.ListN.{length}
use Rattle.redact_blocks.proofs.Blanks.{none-blanked, blanked-size, match-within, match-room, more-match, byte-away, byte-room, more_bytes, block_within, block_room, turned}
use Rattle.redact_blocks.proofs.blank_blocks.Goals as goal
use Rattle.redact_blocks.proofs.blank_blocks.Goals.{After-lay_ahead-k}

-- after what is laid there is a byte, and room for the literal
inside : (c : After-lay_ahead-k) → c.loop-i.i + c.lay_ahead-k.result + length c.args.literal.now + 16 ≤ length c.args.text.now
inside c = omega (arith, c.requires.1.window, c.loop-i-test.true, c.lay_ahead-k.ensures.most)

pub loop-i-init : goal.loop-i-init
loop-i-init c = let r = c.requires.0 in (omega arith, none-blanked r.inside (omega (arith, r.inside)))

pub overflow_sub-text : goal.overflow_sub-text
overflow_sub-text c = c.loop-i.invariant.1.inside

pub overflow_add-at : goal.overflow_add-at
overflow_add-at c = let r = c.requires.0 in omega (arith, blanked-size r c.loop-i.invariant.1, r.within, r.short)

pub overflow_sub-at : goal.overflow_sub-at
overflow_sub-at c = c.loop-i.invariant.0

pub overflow_add-at-in-loop-i : goal.overflow_add-at-in-loop-i
overflow_add-at-in-loop-i c = let r = c.requires.0 in omega (arith, blanked-size r c.loop-i.invariant.1, r.within)

pub shape_of-out-then-until-at : goal.shape_of-out-then-until-at
shape_of-out-then-until-at c = c.loop-i.invariant.1.text_on.same

pub shape_of-out_starts-then-until-at : goal.shape_of-out_starts-then-until-at
shape_of-out_starts-then-until-at c = c.loop-i.invariant.1.starts_on.same

pub shape_of-out_ends-then-until-at : goal.shape_of-out_ends-then-until-at
shape_of-out_ends-then-until-at c = c.loop-i.invariant.1.ends_on.same

pub returns-then-until-at : goal.returns-then-until-at
returns-then-until-at c = c.loop-i.invariant.1

pub lay_ahead-k-requires : goal.lay_ahead-k-requires
lay_ahead-k-requires c =
    block_room c.requires.0 c.loop-i.invariant.1 c.requires.1 c.loop-i-test.true c.if-until-at.false c.requires.2 refl refl

pub overflow_add-i : goal.overflow_add-i
overflow_add-i c = omega (arith, c.lay_ahead-k.ensures.away.most, c.requires.0.short)

pub overflow_add-here : goal.overflow_add-here
overflow_add-here c =
    omega (arith, c.lay_ahead-k.ensures.most, blanked-size c.requires.0 c.loop-i.invariant.1, c.requires.0.within)

pub begins-requires : goal.begins-requires
begins-requires c =
    record {
      of_literal = c.requires.3;
      block = omega (arith, inside (goal.at.begins-requires c).After-lay_ahead-k);
      some = c.requires.0.some;
      inside = omega (arith, inside (goal.at.begins-requires c).After-lay_ahead-k);
    }

pub overflow_add-i-then-begins : goal.overflow_add-i-then-begins
overflow_add-i-then-begins c = omega (arith, inside (goal.at.overflow_add-i-then-begins c).After-lay_ahead-k, c.requires.0.short)

pub fill-requires : goal.fill-requires
fill-requires c =
    let on = turned c.requires.0 c.loop-i.invariant.1 c.requires.1 c.loop-i-test.true c.if-until-at.false c.lay_ahead-k.ensures in
    let fits = block_within c.requires.0 c.loop-i.invariant.1 c.requires.1 c.loop-i-test.true c.if-until-at.false in
    match-room c.requires.0 on (sym c.begins.ensures ∙ c.if-begins.true) (omega (arith, c.requires.1.padded_long)) (omega (arith, fits, c.lay_ahead-k.ensures.most))

pub overflow_add-gap-then-begins : goal.overflow_add-gap-then-begins
overflow_add-gap-then-begins c =
    let on =
    turned c.requires.0 c.loop-i.invariant.1 c.requires.1
    c.loop-i-test.true
    c.if-until-at.false c.lay_ahead-k.ensures in
    omega (arith, match-within c.requires.0 on (sym c.begins.ensures ∙ c.if-begins.true), blanked-size c.requires.0 c.loop-i.invariant.1, c.requires.0.within, c.requires.0.short)

pub overflow_sub-gap-then-begins : goal.overflow_sub-gap-then-begins
overflow_sub-gap-then-begins c = omega (arith, c.loop-i.invariant.0, c.requires.1.window, c.loop-i-test.true)

pub loop-i-smaller-then-begins : goal.loop-i-smaller-then-begins
loop-i-smaller-then-begins c = omega (arith, c.requires.0.some, inside (goal.at.loop-i-smaller-then-begins c).After-lay_ahead-k)

pub loop-i-preserved-then-begins : goal.loop-i-preserved-then-begins
loop-i-preserved-then-begins c =
    let on = turned c.requires.0 c.loop-i.invariant.1 c.requires.1 c.loop-i-test.true c.if-until-at.false c.lay_ahead-k.ensures in
    let fits = block_within c.requires.0 c.loop-i.invariant.1 c.requires.1 c.loop-i-test.true c.if-until-at.false in (
      omega (arith, c.loop-i.invariant.0, c.requires.1.window, c.loop-i-test.true),
      more-match c.requires.0 on (sym c.begins.ensures ∙ c.if-begins.true) c.requires.1.padded_is
          (omega (arith, fits, c.lay_ahead-k.ensures.most)) c.fill.ensures refl
          (omega (arith, c.loop-i.invariant.0, c.requires.1.window, c.loop-i-test.true)),
    )

pub lay_byte-requires : goal.lay_byte-requires
lay_byte-requires c =
    let on = turned c.requires.0 c.loop-i.invariant.1 c.requires.1 c.loop-i-test.true c.if-until-at.false c.lay_ahead-k.ensures in
    byte-room c.requires.0 on (omega (arith, inside (goal.at.lay_byte-requires c).After-lay_ahead-k)) (sym c.begins.ensures ∙ c.if-begins.false)

pub overflow_add-i-else-begins : goal.overflow_add-i-else-begins
overflow_add-i-else-begins c = omega (arith, inside (goal.at.overflow_add-i-else-begins c).After-lay_ahead-k, c.requires.0.short)

pub loop-i-smaller-else-begins : goal.loop-i-smaller-else-begins
loop-i-smaller-else-begins c = omega (arith, inside (goal.at.loop-i-smaller-else-begins c).After-lay_ahead-k)

pub loop-i-preserved-else-begins : goal.loop-i-preserved-else-begins
loop-i-preserved-else-begins c =
    let on = turned c.requires.0 c.loop-i.invariant.1 c.requires.1 c.loop-i-test.true c.if-until-at.false c.lay_ahead-k.ensures in
    let away = byte-away c.requires.0 on (omega (arith, inside (goal.at.loop-i-preserved-else-begins c).After-lay_ahead-k)) (sym c.begins.ensures ∙ c.if-begins.false) in
    (omega (arith, c.loop-i.invariant.0), more_bytes c.requires.0 on 1 away (omega arith) c.lay_byte.ensures refl (omega (arith, c.loop-i.invariant.0)))

pub loop-i-smaller : goal.loop-i-smaller
loop-i-smaller c =
    omega (arith, c.lay_ahead-k.ensures.away.most, c.if-k-lt64.false, c.requires.1.window, c.loop-i-test.true)

pub loop-i-preserved : goal.loop-i-preserved
loop-i-preserved c =
    let passed = c.lay_ahead-k.ensures in
    let fits = block_within c.requires.0 c.loop-i.invariant.1 c.requires.1 c.loop-i-test.true c.if-until-at.false in
    (omega (arith, c.loop-i.invariant.0), more_bytes c.requires.0 c.loop-i.invariant.1 _ passed.away (omega (arith, fits)) passed.stretch refl (omega (arith, c.loop-i.invariant.0)))

pub overflow_add-at-2 : goal.overflow_add-at-2
overflow_add-at-2 c = let r = c.requires.0 in omega (arith, blanked-size r c.loop-i.invariant.1, r.within, r.short)

pub overflow_sub-at-2 : goal.overflow_sub-at-2
overflow_sub-at-2 c = c.loop-i.invariant.0

pub shape_of-out : goal.shape_of-out
shape_of-out c = c.loop-i.invariant.1.text_on.same

pub shape_of-out_starts : goal.shape_of-out_starts
shape_of-out_starts c = c.loop-i.invariant.1.starts_on.same

pub shape_of-out_ends : goal.shape_of-out_ends
shape_of-out_ends c = c.loop-i.invariant.1.ends_on.same

pub returns : goal.returns
returns c = c.loop-i.invariant.1

-- `part_by` calculates its definition, kind by kind. Assumes nothing.
use Rattle.breaking.specs.Doubles.{part_by}
use Rattle.breaking.proofs.parts.part_by.Goals as goal

pub returns-then-has_generator : goal.returns-then-has_generator
unfolding part_by
returns-then-has_generator c = rw (← c.has_generator.ensures, c.if-has_generator.true) c.generator_part.ensures

pub returns-then-is_converter : goal.returns-then-is_converter
unfolding part_by
returns-then-is_converter c = rw (← c.has_generator.ensures, c.if-has_generator.false, ← c.is_converter.ensures, c.if-is_converter.true)

pub returns : goal.returns
unfolding part_by
returns c = rw (← c.has_generator.ensures, c.if-has_generator.false, ← c.is_converter.ensures, c.if-is_converter.false, c.share_steps-steps.ensures.steps)

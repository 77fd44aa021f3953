use mathlib.Core.Path.{refl}
use Rattle.cube.proofs.WordMask.{words_are}
use Rattle.cube.proofs.word_mask.word_cube.Goals as goal

pub returns : goal.returns
returns c = words_are _ _ c.requires refl refl

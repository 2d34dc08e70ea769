use Rattle.std.proofs.Common.{subst}
use Rattle.map_trees.specs.Trees.{AreMapTrees, IsUnreadAmong, all_texts}
use Rattle.map_trees.proofs.Readings.{unread_is_bad}
use Rattle.map_trees.proofs.trees.told.Goals as goal

pub returns-in-Err-Unread : goal.returns-in-Err-Unread
returns-in-Err-Unread c = λ m w h. unread_is_bad m w c.in-Err-Unread.refusal (subst (λ s. IsUnreadAmong s (all_texts m w)) c.in-Err-Unread.field-0-is (subst (AreMapTrees m w) c.in-Err-Unread.is h))

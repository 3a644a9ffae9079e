use Rattle.clif_words.proofs.Left.{all_taken}
use Rattle.clif_words.proofs.cursor.Cursor.is_empty.Goals as goal

pub returns : goal.returns
returns c = all_taken c.args.self.now.words.now c.args.self.now.taken c.args.self.now.within

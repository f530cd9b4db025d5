use Rattle.replies.proofs.Both as lemma
use Rattle.replies.proofs.reply_trips.Goals as goal

pub returns : goal.returns
returns c = lemma.reply_trips

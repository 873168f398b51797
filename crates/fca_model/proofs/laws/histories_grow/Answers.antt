use Rattle.fca_model.proofs.RunLemmas.{legal_none, legal_push, legal_front, legal_reply, state_after-push, events_of-journal_of, own-append}
use Rattle.fca_model.proofs.laws.histories_grow.Goals as goal

pub returns : goal.returns
returns c = record {
  none = legal_none;
  grows = legal_push;
  front = legal_front;
  reply = legal_reply;
  state = state_after-push;
  journal = events_of-journal_of;
  own = own-append;
}

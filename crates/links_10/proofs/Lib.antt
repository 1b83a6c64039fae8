mod SendLemmas
mod RecvLemmas

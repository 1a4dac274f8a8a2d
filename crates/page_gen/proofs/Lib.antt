mod BoxLemmas
mod LengthLemmas

mod BoundLemmas

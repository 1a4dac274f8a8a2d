mod PaintingLemmas
mod ScaleLemmas
mod SlotLemmas
mod StateLemmas

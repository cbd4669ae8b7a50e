mod DigestBytes
mod HashLemmas
mod Taken

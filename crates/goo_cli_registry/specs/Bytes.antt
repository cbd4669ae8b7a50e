-- What a file in memory holds.
use Rattle.std.specs.Prelude.{ℕ, List}
use Rattle.goo_cli_registry.specs.declared.memory_file.MemoryFile.{MemoryFile}

abbrev pub bytes_of : MemoryFile → List ℕ
bytes_of file = file.bytes.items

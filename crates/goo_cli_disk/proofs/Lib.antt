mod SpareLogs

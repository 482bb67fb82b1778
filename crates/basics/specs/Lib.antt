-- Lists serves inner contracts only, of mesh and edges. No open call cites it.
pub mod Lists

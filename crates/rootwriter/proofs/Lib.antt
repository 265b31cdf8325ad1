pub mod RootPuts
